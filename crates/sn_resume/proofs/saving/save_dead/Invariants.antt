use Rattle.std.specs.Prelude.{flat_map}
use Rattle.save_text.specs.Text.{dead_line, dead_switches}
use Rattle.sn_resume.proofs.Parts.{switches_from}
use Rattle.sn_resume.proofs.Putting.{IsLeft}
use Rattle.sn_resume.proofs.saving.save_dead.Given as goal

abbrev pub invariant-switches : goal.invariant-switches
invariant-switches g l =
    IsLeft (flat_map dead_line (dead_switches l.machine.state.fabric.net.dead)) (switches_from l.machine.state.fabric.net.dead l.number)
    (g.R.Sink.written l.initial.sink) (g.R.Sink.written l.sink) (g.R.Sink.faults l.initial.sink) (g.R.Sink.faults l.sink)
