pub mod Lights
pub mod Steps
pub mod Stories
