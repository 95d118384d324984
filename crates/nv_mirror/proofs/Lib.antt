pub mod Exact
pub mod Outs
pub mod Requests
pub mod Standings
pub mod Told
pub mod Values
