-- What a reader must believe of command frames: their layout, the frame check, what a damaged frame is, and the claims.
pub mod Frame
pub mod Command
pub mod Damage
pub mod Claims
