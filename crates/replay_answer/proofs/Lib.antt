-- A call's answer as a line, and the card of the bench.
pub mod Played
pub mod Powered
