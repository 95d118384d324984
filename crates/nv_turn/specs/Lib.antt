pub mod Story
pub mod Passes
pub mod inside
pub mod Lending
