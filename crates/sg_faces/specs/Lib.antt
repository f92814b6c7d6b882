pub mod Orbits
pub mod Faces
pub mod Euler
pub mod Tables
pub mod Sides
