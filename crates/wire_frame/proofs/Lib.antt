-- Laws that belong to no one function: frames as bytes, command frames, damage, and the round trips.
pub mod Frames
pub mod Commands
pub mod Fronts
pub mod Detection
pub mod RoundTrips
