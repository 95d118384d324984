-- What private contracts alone cite.
pub mod Alone
pub mod Leaving
pub mod Opened
pub mod Serving
pub mod Worlds
