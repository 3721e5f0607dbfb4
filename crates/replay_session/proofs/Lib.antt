-- A session, byte by byte and line by line.
pub mod Ended
pub mod Heard
pub mod Gathered
pub mod Laws
