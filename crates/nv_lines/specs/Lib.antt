pub mod Text
pub mod Chunks
pub mod Excerpts
pub mod inside
