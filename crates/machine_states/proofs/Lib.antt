pub mod Blocks
pub mod Flights
pub mod Homes
pub mod Lists
pub mod Parts
pub mod Records
