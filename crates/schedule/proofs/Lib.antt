-- Laws of the schedule file, in the order in which they are best read.
pub mod Sounds
pub mod Entries
pub mod Wholes
pub mod Admits
pub mod Finds
pub mod Takes
pub mod Nexts
pub mod Apart
pub mod Exactly
