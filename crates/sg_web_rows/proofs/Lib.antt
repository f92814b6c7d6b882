pub mod RaiseLemmas
pub mod TotalSlacks
