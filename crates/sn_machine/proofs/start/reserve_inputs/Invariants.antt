use Rattle.std.proofs.Common.{ℕ, ◌<◌, ◌≤◌}
use Rattle.sn_machine.specs.Parts.{unit_at}
use Rattle.sn_machine.specs.Start.{AreRoomier}
use Rattle.sn_machine.proofs.start.reserve_inputs.Given as goal

abbrev pub invariant-processors : goal.invariant-processors
invariant-processors l = record {
  same : AreRoomier l.initial.processors.items l.processors.items;
  done : (n : ℕ) → n < l.place → l.bytes ≤ (unit_at l.processors.items n).input.room;
}
