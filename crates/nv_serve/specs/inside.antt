-- What private contracts alone cite.
pub mod Sharing
pub mod Lanes
pub mod Jobs
