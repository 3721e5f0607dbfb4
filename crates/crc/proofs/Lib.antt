-- Laws that belong to no one function: bits and bytes, xor, the register, the register in a machine word, its table,
-- and what damage a check finds.
pub mod Bits
pub mod Xor
pub mod Register
pub mod Words
pub mod Table
pub mod Count
pub mod Clear
pub mod Parity
pub mod Detection
