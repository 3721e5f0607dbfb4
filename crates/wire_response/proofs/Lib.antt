-- Laws that belong to no one function: short responses, their contents, R2, and the round trips.
pub mod Shorts
pub mod Contents
pub mod Registers
pub mod RoundTrips
