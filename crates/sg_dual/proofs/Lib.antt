pub mod DualWebs
pub mod Frustration
pub mod FacesJoined
