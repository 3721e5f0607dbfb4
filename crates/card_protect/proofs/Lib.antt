-- Laws of marks as bits, of words of marks, and of blocks one after the other.
pub mod Marks
pub mod Words
pub mod Blocks
