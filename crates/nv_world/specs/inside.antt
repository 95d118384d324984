-- What private contracts alone cite.
pub mod Answers
pub mod Entering
pub mod Notices
pub mod Sessions
pub mod Tellings
pub mod Showings
pub mod Splicing
pub mod States
pub mod Worlds
