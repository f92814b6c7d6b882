pub mod Lists
pub mod Said
pub mod OneObject
pub mod GivenObject
