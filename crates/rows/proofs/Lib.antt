-- The laws of a row, in the order in which they are best read: when it is refused, what its steps come to, what it leaves as it was, two rows
-- and runs, one outcome, rows computed and rows shut out; and last those that its code is proved by.
pub mod Exactly
pub mod OneByOne
pub mod Steps
pub mod Around
pub mod TwoRows
pub mod Runs
pub mod Tight
pub mod Cases
pub mod WrongRows
pub mod Taking
pub mod Rowing
