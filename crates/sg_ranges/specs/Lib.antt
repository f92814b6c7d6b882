pub mod Turn
pub mod Cut
