pub mod Steps
pub mod Telling
pub mod Marking
pub mod Grouping
pub mod Picking
