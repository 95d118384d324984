pub mod DrawnLines
pub mod Laws
