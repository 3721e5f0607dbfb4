-- Laws of the rows by number, and of commands found in a list.
pub mod Rows
