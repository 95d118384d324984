pub mod Few
pub mod Sorting
pub mod Made
