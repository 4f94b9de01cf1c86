pub mod Pieces
pub mod Probed
pub mod Played
pub mod Scheduled
pub mod Shown
pub use Rattle.due_events.specs.Machine
