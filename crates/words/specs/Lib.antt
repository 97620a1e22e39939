-- What the functions over sets and rows of words do.
pub mod Rows
pub mod Sets
