-- What asking for a past does.
pub mod Marks
