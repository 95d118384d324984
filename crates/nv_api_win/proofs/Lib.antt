pub mod RowsMake
pub mod Giving
pub mod Homes
pub mod LiveThings
pub mod Coordinates
pub mod Openings
