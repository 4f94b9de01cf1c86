pub mod Scripts
pub mod Found
pub mod Watched
pub mod Probes
pub mod Resumed
