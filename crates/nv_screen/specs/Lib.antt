pub mod Cursor
pub mod Drawing
pub mod Laws
pub mod Screens
pub mod Sound
pub mod Steady
pub mod Worked
pub mod inside
