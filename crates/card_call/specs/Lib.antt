-- What a call leaves, as the model's step has it.
pub mod Seen
