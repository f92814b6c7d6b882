pub mod Tour
pub mod Tracing
