pub mod Finishes
pub mod Told
pub use Rattle.shared_machine.specs.Shared
pub use Rattle.shared_machine.specs.declared.finish.Finish
pub use Rattle.shared_machine.specs.JournalEntry
pub use Rattle.shared_machine.specs.Journal
pub use Rattle.shared_machine.specs.Invariant
