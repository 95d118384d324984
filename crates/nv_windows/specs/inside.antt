-- inside: what private contracts alone cite.
pub mod Seats
