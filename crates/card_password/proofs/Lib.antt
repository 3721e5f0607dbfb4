-- Laws of lists compared, and of a password as it is stored.
pub mod Equal
pub mod Stored
