-- Laws that belong to no one function: words of fields, the sixteen bytes, the round trips.
pub mod Words
pub mod Sixteen
pub mod RoundTrips
