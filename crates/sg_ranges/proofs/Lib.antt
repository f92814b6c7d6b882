pub mod MovedCouplings
pub mod Cuts
