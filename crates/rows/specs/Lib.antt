-- A row of steps in one call, in the order in which it is best read.
pub mod Rows
pub mod OneByOne
pub mod Meaning
pub mod Given
