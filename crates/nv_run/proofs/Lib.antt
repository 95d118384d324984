pub mod Asked
pub mod Books
pub mod Following
pub mod LanesBack
pub mod Lines
pub mod Played
pub mod Replays
pub mod Servers
