-- inside: what only private contracts cite.
pub mod Ends
pub mod Lanes
