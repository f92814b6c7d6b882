pub mod DrawnCylinders
pub mod DrawnWalls
pub mod OneDrawing
pub mod WidthAfterWidth
