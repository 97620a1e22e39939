-- What is printed of a file, by who answers its steps.
pub mod Texts
