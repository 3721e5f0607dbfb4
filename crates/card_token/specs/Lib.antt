-- What the tokens of a block tell.
pub mod Tokens
