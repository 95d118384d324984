pub mod SameLemmas
pub mod RunLemmas
pub mod TableLemmas
pub mod DueLemmas
pub mod FoldLemmas
pub mod BatchLemmas
pub mod LawLemmas
pub mod WorkedLemmas
