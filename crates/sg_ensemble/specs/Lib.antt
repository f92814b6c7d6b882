pub mod Samples
pub mod Widths
