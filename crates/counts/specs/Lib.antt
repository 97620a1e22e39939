-- What a duty sheet counts of one handler, and its counts as the code holds them.
pub mod Counting
pub mod Rows
