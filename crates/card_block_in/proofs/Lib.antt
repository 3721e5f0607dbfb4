-- A block that is stored, and the call.
pub mod Blocks
pub mod Gives
