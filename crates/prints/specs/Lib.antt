-- Everything that is printed of a file, in the order in which it is best read: by the rules, and place by place.
pub mod Printed
pub mod ByPlaces
pub mod Listings
