-- From the refusal of a call to what the step gives, and what the rows that do not apply tell.
pub mod Walk
pub mod Refusals
pub mod Passed
