pub mod Added
pub mod Found
pub mod Steps
pub mod Touched
