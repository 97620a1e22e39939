-- Laws of the steps over a whole register.
pub mod Lent
pub mod Said
pub mod Reading
pub mod FirstReading
pub mod Trying
pub mod Committing
