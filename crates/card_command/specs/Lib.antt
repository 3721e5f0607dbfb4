-- What showing a frame asks for.
pub mod Shows
