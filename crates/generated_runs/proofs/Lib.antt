pub mod DeadStays
pub mod DueEvents
pub mod Running
pub mod Replayed
