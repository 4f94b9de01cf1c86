pub mod Begun
pub mod Saved
