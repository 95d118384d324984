pub mod UiOptions
pub mod UiRows
pub mod Laws
pub mod WorkedUis
pub mod inside
