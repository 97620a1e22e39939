-- The duty sheet over many schedule files, in the order in which it is best read.
pub mod Sheets
pub mod Files
pub mod Adding
pub mod Meaning
pub mod Given
