pub mod Lists
pub mod Evictions
pub mod Turns
pub mod FirstPlaces
pub mod Arrivals
pub mod Marks
pub mod Latest
