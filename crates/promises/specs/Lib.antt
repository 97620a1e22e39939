-- The promises of the register's public operations, and what a run of them inherits from the rules.
pub mod Opening
pub mod Stepping
pub mod Bodies
pub mod Lengths
pub mod Runs
pub mod Inherits
