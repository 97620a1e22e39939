-- Laws of the range.
pub mod Ranges
pub mod Tight
