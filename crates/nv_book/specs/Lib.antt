pub mod Books
pub mod Headings
pub mod Outputs
pub mod Reading
pub mod Upcoming
pub mod Writing
pub mod inside
