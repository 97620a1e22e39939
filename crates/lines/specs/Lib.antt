-- The lines of a run, and the bytes of each.
pub mod Lines
pub mod Texts
