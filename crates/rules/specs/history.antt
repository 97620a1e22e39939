-- What happened: a history of steps and replies, causal pasts in it, and transactions done again on a plain table.
pub mod History
pub mod Past
pub mod Replay
