pub mod Client
pub mod Told
pub mod Rows
pub mod Scrolls
pub mod Batch
pub mod Laws
pub mod Worked
