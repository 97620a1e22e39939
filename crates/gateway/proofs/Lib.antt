-- The laws of the numbers that the exported functions give.
pub mod Numbered
pub mod Apart
