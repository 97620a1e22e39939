-- The laws of the page's columns, and some of its rows computed.
pub mod Columns
pub mod Listing
