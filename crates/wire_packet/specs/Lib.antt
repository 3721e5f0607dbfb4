-- What a reader must believe of data packets: their layout, their answers, what a damaged block is, and what is claimed.
pub mod Packet
pub mod Damage
pub mod Claims
