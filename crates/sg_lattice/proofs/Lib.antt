pub mod Ranks
pub mod CoupledBonds
pub mod Steps
pub mod KindSteps
pub mod LatticeBonds
pub mod Laid
pub mod LatticeRotation
pub mod LatticeSizes
