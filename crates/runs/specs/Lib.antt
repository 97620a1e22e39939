-- The run of a schedule file, in the order in which it is best read.
pub mod ByRules
pub mod Players
pub mod ByPlaces
pub mod Stopping
pub mod RunOfPlaces
