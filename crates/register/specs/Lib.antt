-- What the answer to the question for a length means, and what is shown of a cell.
pub mod Meaning
pub mod Ending
