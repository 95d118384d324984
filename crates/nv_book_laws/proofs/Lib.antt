pub mod HowLong
pub mod OneBook
pub mod OneOutput
pub mod Ranges
pub mod Takes
pub mod WentOut
pub mod Written
