-- What the judge promises besides the ledger's promises.
pub mod Lengths
pub mod Ending
pub mod Taking
