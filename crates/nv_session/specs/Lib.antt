pub mod Ends
pub mod Sending
pub mod Openings
pub mod Joined
pub mod Connections
pub mod inside
