pub mod UnitSteps
pub mod SetDuals
pub mod EdgeReach
pub mod Packing
pub mod Climb
pub mod SetDepths
pub mod Cutting
