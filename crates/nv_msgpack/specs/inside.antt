-- What private contracts alone cite.
pub mod Integers
pub mod Steps
