pub mod Links
pub mod Jobs
pub mod Headline
pub mod Leaving
pub mod inside
