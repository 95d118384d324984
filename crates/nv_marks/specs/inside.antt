pub mod Records
pub mod Chunks
pub mod Stored
pub mod Putting
pub mod Names
pub mod Restoring
pub mod Bands
