pub mod Seen
pub mod Stands
pub mod Taken
pub mod Reported
pub mod Shown
pub use Rattle.node_run.specs.Shown as NodeRunShown
pub use Rattle.node_run.specs.declared.job.Run
pub use Rattle.node_run.specs.Endings
pub use Rattle.node_run.specs.Pieces
pub use Rattle.node_run.specs.declared.ending.Ending
pub use Rattle.node_run.specs.declared.running.RunFault
