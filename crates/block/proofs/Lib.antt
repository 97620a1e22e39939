-- The laws of a block, in the order in which they are best read.
pub mod Stores
pub mod Headed
pub mod Held
