-- The decoder's answers.
pub mod Read
