pub mod Numeral
pub mod Command
