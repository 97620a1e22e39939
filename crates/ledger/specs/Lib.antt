-- The judge's words, in the order in which they are best read.
pub mod Entries
pub mod Histories
pub mod Noting
pub mod Promises
pub mod Runs
pub mod Given
