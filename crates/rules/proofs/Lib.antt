-- The laws of the rules, in the order in which they are best read: of one step and of one turn; of histories alone; of a register
-- and the history that led to it, with the cases. A wrong edit of the rules is refused first where a reader would look: at the
-- cases, then at the attempts.
pub mod steps
pub mod Determined
pub mod history
pub mod demand
