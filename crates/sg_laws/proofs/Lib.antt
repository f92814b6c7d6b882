pub mod Drawn
pub mod Alternations
pub mod Rounds
pub mod Naming
pub mod Streams
