pub mod Graphs
pub mod Served
pub mod Promises
pub mod Laws
pub mod Settled
