-- What private contracts alone cite.
pub mod Became
pub mod Checked
pub mod Counts
pub mod Folded
pub mod GridsFolded
pub mod GridsTaken
pub mod Known
pub mod Looking
pub mod Mirroring
pub mod Parts
pub mod Sharing
pub mod Watched
