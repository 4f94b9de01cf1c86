pub use Rattle.sn_machine.specs.Machine
pub use Rattle.sn_machine.specs.Parts
