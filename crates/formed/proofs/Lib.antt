-- Laws of bits, of what is looked at, and of what is answered.
pub mod Bits
pub mod Parts
pub mod Answers
