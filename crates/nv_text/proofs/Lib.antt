pub mod PartLemmas
pub mod PlainLemmas
pub mod PrefixLemmas
pub mod FrontLemmas
