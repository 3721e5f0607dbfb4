-- What a reader must believe of the checks: bits in the order sent, the check itself, its table, what damage is, and what is claimed.
pub mod Bits
pub mod Crc
pub mod Table
pub mod Altered
pub mod Detection
pub mod Claims
