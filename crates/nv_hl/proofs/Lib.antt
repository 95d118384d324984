pub mod LawLemmas
pub mod CellLemmas
pub mod GroupLemmas
pub mod StoredLemmas
