-- What a call is handed, held against the rows of refused calls.
pub mod Rows
