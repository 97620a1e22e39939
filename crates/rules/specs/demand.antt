-- What is demanded of every run, what a history tells of each reply, and the cases of docs/RULES.md.
pub mod Demand
pub mod Judge
pub mod Cases
