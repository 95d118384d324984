pub mod Windows
pub mod Opening
pub mod TabpageRows
pub mod WindowRows
pub mod Laws
pub mod inside
