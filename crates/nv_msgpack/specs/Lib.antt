pub mod Decoded
pub mod FirstByte
pub mod Handle
pub mod Reading
pub mod Spelling
pub mod Within
pub mod Shortest
pub mod inside
