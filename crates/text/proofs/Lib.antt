-- The laws of texts in a buffer and on a page, and of numbers in decimal.
pub mod Puts
pub mod Decimals
pub mod Pages
