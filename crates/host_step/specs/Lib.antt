-- What the code of a step hands on.
pub mod Turn
