-- The transition table as the code has it.
pub mod Packed
