pub mod Places
pub mod Runs
pub mod Values
pub mod Seeds
