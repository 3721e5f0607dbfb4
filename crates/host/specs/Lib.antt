-- What a reader must believe of the host, in the order to be read.
pub mod Sequence
pub mod Reply
pub mod Host
pub mod History
pub mod Readings
