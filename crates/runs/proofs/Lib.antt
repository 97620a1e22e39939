-- The laws of a run, in the order in which they are best read: a file's run place by place is the run by the rules.
pub mod Players
pub mod Apart
pub mod Shows
pub mod Scripts
pub mod Places
pub mod RunOf
pub mod GoesOn
pub mod Fronts
mod Stops
