pub mod Files
pub mod Saves
pub mod Fetches
pub use Rattle.rolled_replay.specs.Rolled
pub use Rattle.rolled_replay.specs.declared.job.Roll
pub use Rattle.rolled_replay.specs.declared.leading.RollFault
