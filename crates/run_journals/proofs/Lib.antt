pub mod Draws
pub mod Folds
pub mod Dues
pub mod Released
pub use Rattle.due_events.proofs.EachDue
