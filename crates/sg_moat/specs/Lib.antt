pub mod Input
pub mod Slices
pub mod Gathers
pub mod Depths
