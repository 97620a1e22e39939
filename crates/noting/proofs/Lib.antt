-- Laws of what is stored.
pub mod Stores
pub mod Placed
