-- Laws of a turn, and of a step on whole words.
pub mod Refusing
pub mod Taking
pub mod Turning
pub mod Stepping
