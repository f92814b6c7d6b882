pub mod Tests
pub mod Members
pub mod Limits
pub mod Reads
pub mod Bonds
pub mod Numbers
pub mod Draft
