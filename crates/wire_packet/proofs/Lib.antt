-- Laws that belong to no one function: a packet's check, the answers case by case, what the encoder writes, the round
-- trips, and what damage a packet's check finds.
pub mod Check
pub mod Answers
pub mod Emitted
pub mod RoundTrip
pub mod Detection
