-- The laws of marks and of pasts over the judge's words, in the order in which they are best read.
pub mod Marking
pub mod Pasts
pub mod Asked
pub mod Last
