-- What comes of start checks.
pub mod Outcome
