-- What an operation that succeeds or fails leaves.
pub mod Blocks
