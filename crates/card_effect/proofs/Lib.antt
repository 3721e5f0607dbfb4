-- Laws of blocks swept.
pub mod Sweeps
