pub mod Limits
pub mod Pieces
pub mod Parity
pub mod Sums
pub mod Sets
pub mod Ends
pub mod Loads
pub mod Naturals
