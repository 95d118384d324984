pub mod Asking
pub mod Ends
pub mod Laws
pub mod Listings
pub mod Worked
pub mod inside
