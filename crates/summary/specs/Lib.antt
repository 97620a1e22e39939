-- What is printed of a duty sheet, what putting it into a buffer comes to, and one small sheet written out.
pub mod Texts
pub mod Putting
pub mod Listing
