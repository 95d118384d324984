-- What private contracts alone cite.
pub mod Parts
pub mod Deciding
pub mod Ranges
pub mod Settings
pub mod Optioning
pub mod Orders
pub mod Shapes
