pub mod Ordered
pub mod Stands
pub mod Shown
pub use Rattle.node_run.specs.declared.job.Run
pub use Rattle.node_run.specs.Reported
pub use Rattle.node_run.specs.Shown as NodeRunShown
pub use Rattle.node_run.specs.Pieces
pub use Rattle.node_run.specs.declared.ending.Ending
pub use Rattle.node_run.specs.declared.job.RunShowing
pub use Rattle.node_run.specs.Endings
pub use Rattle.node_run.specs.Finishes
pub use Rattle.node_run.specs.Told
pub use Rattle.node_run.specs.Finish
pub use Rattle.node_run.specs.Shared
pub use Rattle.run_statistics.specs.Lines
pub use Rattle.run_statistics.specs.Statistics
pub use Rattle.run_statistics.specs.declared.count.Count
pub use Rattle.run_statistics.specs.Counted
