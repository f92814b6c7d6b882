pub mod Graph
pub mod Network
