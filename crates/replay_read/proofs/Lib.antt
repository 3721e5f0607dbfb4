-- Laws that belong to no one function.
pub mod Digits
pub mod Words
pub mod Held
pub mod Reading
pub mod RoundTrip
pub mod Longest
pub mod Collecting
pub mod Laws
