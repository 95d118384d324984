pub mod Strings
pub mod Sizing
pub mod Shedding
pub mod Gaining
pub mod Crossing
