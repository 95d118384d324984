pub mod Batches
pub mod Weights
