pub mod Text
pub mod Pieces
pub mod Played
pub mod Shown
pub use Rattle.ordered_run.specs.Ordered
pub use Rattle.ordered_run.specs.Shown as OrderedRunShown
