-- The room that a password has.
pub mod Fits
