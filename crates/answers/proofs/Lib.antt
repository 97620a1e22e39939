-- The laws of what the judge asks of its words.
pub mod Rows
pub mod Ranges
pub mod Present
