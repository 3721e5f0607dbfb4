-- Laws that belong to no one function: shifts and masks, the check byte, bytes of a word; bits cut out of a word,
-- layouts, formats on whole words, and the round trips.
pub mod Masks
pub mod Check
pub mod Bytes
pub mod Bits
pub mod Slots
pub mod Kept
pub mod Words
pub mod RoundTrip
