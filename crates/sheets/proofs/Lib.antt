-- The laws of a duty sheet, in the order in which they are best read: a sheet with lines, adding a file, many files.
pub mod WithLines
pub mod Full
pub mod Answers
pub mod Underway
pub mod Admitted
pub mod Adds
pub mod Tight
pub mod Counts
pub mod Wraps
pub mod Balance
pub mod Files
