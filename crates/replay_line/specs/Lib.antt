-- The replay of lines on the card.
pub mod Replay
