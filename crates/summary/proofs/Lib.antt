-- The small sheet computed.
pub mod Listing
