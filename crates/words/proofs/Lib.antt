-- Laws of rows that change.
pub mod Changes
