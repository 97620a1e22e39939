-- What is written of what was read.
pub mod Written
