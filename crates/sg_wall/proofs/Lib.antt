pub mod EmptySeams
pub mod WallNumbers
pub mod OneWall
pub mod WallTables
