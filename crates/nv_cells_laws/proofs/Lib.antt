pub mod Behind
pub mod Halves
pub mod OnePiece
pub mod Places
pub mod Spelling
