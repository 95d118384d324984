-- What private contracts alone cite.
pub mod Settled
pub mod Painting
pub mod Parting
