-- What a block in asks of the record and the slices, and what a packet comes to.
pub mod Stores
pub mod Enters
