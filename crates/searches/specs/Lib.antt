-- What is looked for among the cells of a set.
pub mod Searches
