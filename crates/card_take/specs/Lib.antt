-- What a take asks of the record and the slices.
pub mod Takes
