pub mod Devices
pub mod Reading
pub mod Writing
pub mod Memory
pub mod Adapters
