-- What the enums of this crate mean in the rules, what the entries of a table say, and what is promised of them.
pub mod Meaning
pub mod Entries
pub mod Promises
