-- Laws that belong to no one function.
pub mod Fields
pub mod Limits
pub mod Lines
pub mod Laws
