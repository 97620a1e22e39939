-- Laws of histories alone: pasts, versions, deeds, and what is found when they are done again.
pub mod Pasts
pub mod Versions
pub mod Deeds
pub mod Sources
pub mod Replays
pub mod Computed
pub mod Alike
pub mod AlikeNotes
