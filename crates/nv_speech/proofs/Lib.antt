pub mod Flowing
pub mod Speaking
