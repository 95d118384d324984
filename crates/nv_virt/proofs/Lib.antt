pub mod CellLemmas
pub mod LayLemmas
pub mod PlaceLemmas
pub mod WorkedTexts
