-- What private contracts alone cite.
pub mod Outlines
pub mod Heads
pub mod Parts
pub mod Fronts
