-- The rules, in the order in which they are best read: the steps and their refusals, the history of the replies, and what is
-- demanded of both. A person who knows docs/RULES.md and Figure 1 of PI 1923 should find each sentence of theirs here once.
pub mod Promise
pub mod steps
pub mod history
pub mod demand
