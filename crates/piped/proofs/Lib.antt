-- What is printed of a file, told by its front.
pub mod Fronts
