pub mod Cuts
pub mod Heads
pub mod Places
pub mod Scans
pub mod Single
pub mod Skipped
pub mod Taken
