pub mod Numbers
pub mod Lists
pub mod Due
pub mod Runs
pub use Rattle.sn_machine.specs.Machine
pub use Rattle.sn_machine.specs.Looks
pub use Rattle.sn_machine.specs.Nets
pub use Rattle.sn_machine.specs.Runs as ConsistentCutsRuns
pub use Rattle.sn_machine.specs.Headline
pub use Rattle.sn_machine.specs.RunInvariant
