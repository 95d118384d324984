pub mod Tree
pub mod Ways
pub mod Runs
pub mod Laws
