-- The laws of the judge's steps.
pub mod Answers
pub mod Tests
pub mod Passing
pub mod Stepping
pub mod Opening
pub mod Ends
pub mod Tight
