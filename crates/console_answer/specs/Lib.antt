-- What the console writes of a data answer.
pub mod Response
