pub mod Flat
pub mod Places
pub mod Moves
pub mod Laws
