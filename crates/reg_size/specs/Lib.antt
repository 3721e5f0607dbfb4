-- What a reader must believe of the size pair, and what is claimed of it.
pub mod Size
pub mod Claims
