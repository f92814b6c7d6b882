pub mod Stream
pub mod Named
