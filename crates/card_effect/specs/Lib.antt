-- Which effects stay inside the memory that is lent, and bytes zeroed from the front.
pub mod Apply
