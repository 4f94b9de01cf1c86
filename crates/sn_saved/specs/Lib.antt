pub mod Saved
pub mod Resumed
