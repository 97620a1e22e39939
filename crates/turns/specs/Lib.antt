-- For internal contracts alone: what our own functions leave. Nothing here need be believed.
pub mod Meaning
