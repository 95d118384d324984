-- What private contracts alone cite.
pub mod Endings
pub mod Offering
pub mod Quiet
pub mod Tallies
pub mod Watching
