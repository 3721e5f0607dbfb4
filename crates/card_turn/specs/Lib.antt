-- What a turn of the code stands for in the model.
pub mod Turned
