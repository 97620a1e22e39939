-- The promises of the exported functions, said of numbers.
pub mod Packed
