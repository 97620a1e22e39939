-- One step: its code, its replies, the tables that it changes, the checks that refuse it, Figure 1 with its aborts, and both together as a turn.
pub mod Tables
pub mod Codes
pub mod Replies
pub mod Register
pub mod Checks
pub mod Given
pub mod Figure
pub mod Aborts
pub mod Turn
