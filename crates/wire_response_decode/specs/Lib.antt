-- What a reader must believe of the decoders: each answer's number or values.
pub mod Reply
