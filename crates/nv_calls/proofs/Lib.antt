pub mod AtOnce
pub mod CallBounds
pub mod Giving
pub mod ReadsOnce
