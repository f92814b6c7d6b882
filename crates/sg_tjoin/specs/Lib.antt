pub mod Doubled
pub mod Turns
pub mod Allowance
pub mod Matchings
pub mod Counted
