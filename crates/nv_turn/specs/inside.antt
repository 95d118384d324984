-- What only private contracts cite.
pub mod Rule
pub mod Steps
pub mod Seats
