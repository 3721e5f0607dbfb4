-- Laws that belong to no one function: registers of one word, and the round trips.
pub mod Bare
pub mod RoundTrips
