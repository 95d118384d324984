pub mod Fitting
pub mod Giving
pub mod RowsMake
pub mod Examples
