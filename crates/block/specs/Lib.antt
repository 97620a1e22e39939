-- What the functions over a block do.
pub mod Blocks
