-- What a reader must believe of the CSD: its slots as 01 lists them.
pub mod Csd
pub mod Claims
