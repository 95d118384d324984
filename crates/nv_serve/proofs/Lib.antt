pub mod Members
pub mod Sharing
pub mod Chaining
pub mod Placing
pub mod Ending
pub mod Headlining
pub mod Crossing
