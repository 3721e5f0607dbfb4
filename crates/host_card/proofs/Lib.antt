-- The claim about host and card joined: the card is brought up.
pub mod Exchange
pub mod Sends
pub mod Turns
pub mod Replies
pub mod Joined
