-- The block count that the last line shows.
pub mod Blocks
