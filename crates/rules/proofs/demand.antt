-- Laws of a register and the history that led to it: the third demand, what the history tells, and the cases.
pub mod NeverSpent
pub mod Invariant
pub mod Reading
pub mod Committing
pub mod Judged
pub mod ExactAborts
pub mod ThirdDemand
pub mod TornAtAll
pub mod AllCases
pub mod CaseHistories
pub mod CasesComputed
pub mod CasesDemanded
