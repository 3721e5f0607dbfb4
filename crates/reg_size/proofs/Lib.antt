-- The search for the pair, and that it finds 01's.
pub mod Search
pub mod SizeLaws
