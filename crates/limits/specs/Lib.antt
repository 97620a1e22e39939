-- The numbers that contracts cite, and the promise of the range.
pub mod Limits
pub mod Ranges
