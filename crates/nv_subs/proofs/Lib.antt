pub mod Ranks
pub mod Members
pub mod Attached
pub mod SentLines
