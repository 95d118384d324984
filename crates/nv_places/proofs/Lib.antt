pub mod FlatLemmas
pub mod PlaceLemmas
pub mod MoveLemmas
