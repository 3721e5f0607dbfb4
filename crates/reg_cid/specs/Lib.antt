-- What a reader must believe of the CID, and of what it shares with the CSD.
pub mod Content
pub mod Cid
pub mod Claims
