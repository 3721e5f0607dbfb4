-- A block that is sent.
pub mod Led
pub mod Sent
