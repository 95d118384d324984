-- What private contracts alone cite.
pub mod Candidates
pub mod Naming
pub mod Parts
pub mod Rectangles
pub mod SameTrees
pub mod Taking
