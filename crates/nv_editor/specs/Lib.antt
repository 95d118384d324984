pub mod Doing
pub mod Uis
pub mod Sound
pub mod Facts
pub mod Light
pub mod Namespaces
pub mod Closing
pub mod inside
