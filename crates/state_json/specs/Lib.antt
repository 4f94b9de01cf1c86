pub mod Json
pub mod Values
pub mod Messages
pub mod Parts
pub mod Details
pub mod Lines
pub mod Untold
