pub mod Laid
pub mod Laying
pub mod Steadiness
