-- What private contracts alone cite.
pub mod Insisting
pub mod Taking
pub mod Intakes
pub mod Dealing
