pub mod Attributes
pub mod Cells
pub mod Groups
pub mod Laws
pub mod inside
