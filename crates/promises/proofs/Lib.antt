-- The promises are tight, give each refusal exactly then, leave what the rules leave, and inherit the third demand.
pub mod Exactly
pub mod Leaves
pub mod OneBlock
pub mod Runs
pub mod Inherits
pub mod WordCases
