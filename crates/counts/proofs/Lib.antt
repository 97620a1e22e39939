-- Laws of the columns of a handler's counts, and the table computed.
pub mod Columns
pub mod Table
