-- Nothing is lost in what a reply means.
pub mod Apart
