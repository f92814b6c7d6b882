pub mod Loop
pub mod Packing
pub mod Verdict
