pub mod Laws
pub mod LineCells
pub mod inside
