-- What the code of a reply hands on.
pub mod Read
