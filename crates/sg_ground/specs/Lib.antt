pub mod TightJoin
pub mod Loops
pub mod Solution
pub mod Placed
pub mod Nested
pub mod Allowance
pub mod Counted
