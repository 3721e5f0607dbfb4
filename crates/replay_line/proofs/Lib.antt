-- Laws of the line that was read.
pub mod Asked
