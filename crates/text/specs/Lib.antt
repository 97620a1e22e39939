-- Texts as bytes, texts in a buffer, and texts on a page.
pub mod Bytes
pub mod Lies
pub mod Pages
