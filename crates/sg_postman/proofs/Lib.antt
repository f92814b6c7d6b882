pub mod Trails
pub mod Tracings
pub mod OpenEdges
pub mod OddNodes
pub mod ClosedWalks
pub mod DoubledJoins
pub mod TourWeights
