pub mod Moments
pub mod Resumed
pub mod SameJob
