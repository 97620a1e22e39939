-- How a case is played on words.
pub mod Played
