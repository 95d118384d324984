pub mod Settling
pub mod Panes
pub mod Separators
pub mod Scenes
pub mod Laws
pub mod inside
