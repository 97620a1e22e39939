-- The page of step codes, what putting it into a buffer comes to, and some of its rows written out.
pub mod Page
pub mod Putting
pub mod Listing
