-- The schedule file, in the order in which it is best read.
pub mod Bytes
pub mod Sound
pub mod Scripts
pub mod Admitting
pub mod Finding
pub mod Taking
pub mod Meaning
pub mod Fronts
pub mod Given
