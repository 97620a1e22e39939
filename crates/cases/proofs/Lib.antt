-- The one claim, and the engines that the promise of a step shuts out.
pub mod Claim
pub mod WrongEngines
