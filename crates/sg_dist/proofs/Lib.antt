mod Leads
mod Steps
mod Ends
mod Pushes
mod Pops
mod Ways
pub mod LightWays
