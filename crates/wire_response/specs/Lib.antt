-- What a reader must believe of responses: each kind's layout, the card status, and the claims.
pub mod Response
pub mod Status
pub mod Claims
