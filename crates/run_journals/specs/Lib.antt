pub mod Picks
pub mod Journal
pub use Rattle.due_events.specs.Numbers
pub use Rattle.due_events.specs.Due
pub use Rattle.due_events.specs.Machine
pub use Rattle.due_events.specs.ConsistentCutsRuns
