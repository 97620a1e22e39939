-- What a commit does to the words of a body.
pub mod Stores
