-- What the steps over a whole body require and leave.
pub mod Takes
