-- A call's answer as a line.
pub mod Played
