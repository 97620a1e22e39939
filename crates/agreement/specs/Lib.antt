-- The judge and the runner.
pub mod Agreement
