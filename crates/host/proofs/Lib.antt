-- The claims about the host: its polls, when it gives up, and the end.
pub mod Readings
pub mod Range
pub mod Steps
pub mod History
pub mod GivesUp
