-- The words of a register, in the order in which they are best read.
pub mod Bits
pub mod Rows
pub mod Places
pub mod View
pub mod WellFormed
