-- What the test of words looks at.
pub mod Seen
