-- What a message stands for.
pub mod Sent
