-- The laws of a commit's words, in the order in which they are best read.
pub mod Taken
pub mod Stamping
pub mod Storing
pub mod Commits
