-- inside: what private contracts alone cite.
pub mod Measured
pub mod Paths
