-- What the first byte and the length of a block tell.
pub mod Tokens
