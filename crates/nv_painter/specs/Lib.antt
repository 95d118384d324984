pub mod Keys
pub mod Laws
pub mod Painters
pub mod Pictures
pub mod Spoken
pub mod inside
