-- What every encoder and decoder shares: words, layouts of bits, formats with a check, and the answers with their numbers.
pub mod Answer
pub mod Word
pub mod Layout
pub mod Format
pub mod RoundTrip
