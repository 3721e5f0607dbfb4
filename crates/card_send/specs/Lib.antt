-- What is seen of a block that is sent.
pub mod Sending
