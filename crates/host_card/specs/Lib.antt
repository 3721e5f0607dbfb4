-- What a reader must believe of host and card together.
pub mod Joined
