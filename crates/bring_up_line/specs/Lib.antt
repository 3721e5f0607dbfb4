-- What the program of the host reads: the card's answers, what holds of them, and the limit.
pub mod Answer
pub mod Laws
pub mod Limit
