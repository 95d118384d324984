pub mod Attachments
pub mod Laws
pub mod Mirrors
pub mod Worked
pub mod inside
