-- What a place says.
pub mod Spans
