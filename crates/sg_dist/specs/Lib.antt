pub mod Search
pub mod Order
