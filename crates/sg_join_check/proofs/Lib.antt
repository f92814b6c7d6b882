pub mod Sides
pub mod Yes
