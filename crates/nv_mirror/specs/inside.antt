-- What private contracts alone cite.
pub mod Incoming
pub mod Pages
pub mod Steps
