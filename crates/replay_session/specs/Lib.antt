-- A session with the card.
pub mod Session
pub mod Laws
