pub mod Passes
pub mod Halves
pub mod Applying
pub mod Laws
pub mod inside
