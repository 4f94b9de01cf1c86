pub mod Orders
pub mod Going
pub mod Starts
pub mod Puts
pub mod Leaving
pub mod Outcomes
pub mod OrderLaws
pub use Rattle.node_run.proofs.Replays
pub use Rattle.node_run.proofs.Runs
pub use Rattle.node_run.proofs.Finishing
pub use Rattle.node_run.proofs.Puts as NodeThreadsPuts
pub use Rattle.node_run.proofs.Fits
pub use Rattle.run_statistics.proofs.CountedSoFar
