-- What the replies of this crate mean, their numbers, and what is shown of a cell.
pub mod Meaning
pub mod Numbers
pub mod Ends
