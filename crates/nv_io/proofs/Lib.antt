pub mod KnownLemmas
pub mod PieceLemmas
pub mod ShelfLemmas
pub mod SizeLemmas
pub mod StreamLemmas
