-- Laws of the register.
pub mod Opening
pub mod Stepping
pub mod Ends
pub mod Tight
