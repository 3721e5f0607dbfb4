-- What a block of 42 comes to.
pub mod Operates
