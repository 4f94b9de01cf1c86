pub mod Fronts
pub mod Kept
pub mod Learning
pub mod Seen
