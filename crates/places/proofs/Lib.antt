-- Laws of parts that are lent.
pub mod Lent
