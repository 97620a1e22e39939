-- What was read of a file.
pub mod Readings
