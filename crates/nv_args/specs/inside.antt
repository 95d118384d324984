-- What private contracts alone cite.
pub mod Held
pub mod Colours
pub mod Parts
pub mod Looking
pub mod Lookup
