-- What private contracts alone cite.
pub mod Entering
pub mod Fitness
pub mod Heads
pub mod Intakes
pub mod Parts
pub mod Pieces
pub mod Playing
pub mod Steps
