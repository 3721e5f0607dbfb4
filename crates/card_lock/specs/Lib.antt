-- What the block of 42 does to the password.
pub mod Relock
