pub mod Reading
pub mod Intakes
pub mod inside
