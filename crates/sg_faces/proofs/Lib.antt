pub mod PhiPermutes
pub mod Cycles
pub mod FaceOrbits
pub mod OrbitWalks
pub mod PhiTables
pub mod Traced
pub mod SameFaces
pub mod BareSpins
