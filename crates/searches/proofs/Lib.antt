-- What a search among the cells of a set finds.
pub mod Cells
