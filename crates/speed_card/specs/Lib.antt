-- Calls one after the other.
pub mod Blocks
