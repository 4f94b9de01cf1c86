pub mod Controls
pub mod Messages
pub mod Parts
pub mod Rolling
pub mod Invariant
pub mod Recovered
pub mod Example
