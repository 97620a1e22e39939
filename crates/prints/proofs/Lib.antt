-- The laws of a whole run that is printed: place by place, put together, and by the rules.
pub mod Underway
pub mod Cells
pub mod Runs
pub mod Whole
pub mod Listings
