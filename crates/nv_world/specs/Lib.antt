pub mod Laws
pub mod Machines
pub mod Steps
pub mod Worlds
pub mod inside
