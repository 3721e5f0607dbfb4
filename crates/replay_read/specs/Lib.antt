-- Lines of input of the replay program: their hex, what is read, and how a line is collected.
pub mod Hex
pub mod Read
pub mod Keep
pub mod Laws
