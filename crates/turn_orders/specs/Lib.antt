pub mod Orders
pub mod Scheduled
pub mod Drawn
