pub mod Text
pub mod Members
pub mod ReadJson
