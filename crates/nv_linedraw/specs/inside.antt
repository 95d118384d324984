pub mod DrawnCells
pub mod OneRow
pub mod Placing
pub mod Plain
pub mod Stretches
