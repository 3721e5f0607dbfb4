-- Laws of calls one after the other.
pub mod Runs
