pub mod ListLemmas
pub mod NumberLemmas
pub mod StepLemmas
pub mod PathLemmas
pub mod WayLemmas
pub mod RunLemmas
