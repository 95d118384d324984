pub mod Starts
pub mod Edits
pub mod Held
pub mod Tables
