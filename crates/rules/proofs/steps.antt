-- Laws of one step and of one turn.
pub mod Tables
pub mod Searches
pub mod Numbers
pub mod Steps
pub mod Given
pub mod Turns
pub mod Properties
pub mod Attempts
pub mod Ways
pub mod Sheets
pub mod Mapped
pub mod Bounds
pub mod Confined
