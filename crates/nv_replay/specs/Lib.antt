pub mod Comparing
pub mod Ends
pub mod Entering
pub mod Sights
pub mod Summary
pub mod inside
