pub mod EachDue
pub use Rattle.sn_machine.proofs.Run
pub use Rattle.sn_machine.proofs.EachEvent
pub use Rattle.sn_machine.proofs.SteppedCases
