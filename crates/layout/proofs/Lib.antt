-- The laws of the layout, in the order in which they are best read.
pub mod Bits
pub mod Rows
pub mod Places
pub mod Tested
pub mod Blocks
pub mod Holds
pub mod ViewPour
pub mod PourView
pub mod Untouched
pub mod Fronts
pub mod OneHandler
pub mod OneRow
pub mod Kept
