-- The laws of the judge's words, in the order in which they are best read.
pub mod Deeds
pub mod OneDeedMore
pub mod Entries
pub mod Tested
pub mod Histories
pub mod Commits
pub mod Versions
pub mod Faithful
pub mod Outcomes
pub mod Steps
pub mod Opened
pub mod Exactly
pub mod Runs
