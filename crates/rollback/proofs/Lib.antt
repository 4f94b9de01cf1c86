pub mod Changed
pub mod Oldest
pub mod Steps
