-- How long the number of a reason is.
pub mod Reasons
