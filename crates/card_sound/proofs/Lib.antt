-- Laws that belong to no one function: lists walked by a loop, and lists of tests.
pub mod Walks
pub mod Tests
