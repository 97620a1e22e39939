-- The laws of their agreement, in the order in which they are best read.
pub mod Cut
pub mod Counts
pub mod Beside
pub mod Alongside
pub mod Agrees
