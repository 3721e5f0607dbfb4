-- A block that is sent, and the call.
pub mod Sending
pub mod Takes
