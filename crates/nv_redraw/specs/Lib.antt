pub mod Reading
pub mod Spellable
pub mod Taking
pub mod Values
pub mod WorkedValues
pub mod inside
