-- What a call leaves.
pub mod Frames
