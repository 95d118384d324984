pub mod Draws
pub mod Questions
pub mod Story
pub mod inside
