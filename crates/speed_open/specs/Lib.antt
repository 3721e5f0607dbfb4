-- A card that is brought to tran.
pub mod Begun
