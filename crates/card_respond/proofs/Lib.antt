-- Responses that fit the output buffer.
pub mod Sending
