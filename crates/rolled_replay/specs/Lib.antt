pub mod Stages
pub mod Text
pub mod Pieces
pub mod Led
pub mod Rolled
pub use Rattle.rolling_recovery.specs.Controls
pub use Rattle.rolling_recovery.specs.declared.controls.Control
