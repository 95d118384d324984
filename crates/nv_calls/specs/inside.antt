-- What private contracts alone cite.
pub mod Given
pub mod Bounded
