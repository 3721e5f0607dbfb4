-- What a caller sees of a turn that sends nothing.
pub mod Turns
