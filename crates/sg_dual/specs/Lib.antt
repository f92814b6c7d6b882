pub mod Dual
