use Rattle.std.specs.Prelude.{flat_map}
use Rattle.sn_saved.specs.Saved.{owners_at}
use Rattle.save_text.specs.Text.{owner_line}
use Rattle.sn_resume.proofs.Parts.{owners_from}
use Rattle.sn_resume.proofs.Putting.{IsLeft}
use Rattle.sn_resume.proofs.saving.save_owners.Given as goal

abbrev pub invariant-memory : goal.invariant-memory
invariant-memory g l =
    IsLeft (flat_map owner_line (owners_at l.machine.state.fabric l.machine.state.fabric.point)) (owners_from l.machine.state.fabric l.number)
    (g.R.Sink.written l.initial.sink) (g.R.Sink.written l.sink) (g.R.Sink.faults l.initial.sink) (g.R.Sink.faults l.sink)
