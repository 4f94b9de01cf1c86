pub mod LawfulRuns
pub mod Blocks
pub mod Ranges
pub mod Playing
pub mod Puts
pub mod Slots
