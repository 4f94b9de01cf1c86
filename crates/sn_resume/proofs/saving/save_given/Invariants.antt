use Rattle.std.proofs.Common.{ℕ, ◌<◌, get_or}
use Rattle.std.specs.Prelude.{flat_map}
use Rattle.std.specs.List.{All}
use Rattle.sn_model.specs.Machine.{first_processor}
use Rattle.sn_saved.specs.Saved.{given_from}
use Rattle.save_text.specs.Text.{given_line}
use Rattle.sn_resume.proofs.Parts.{given_lines}
use Rattle.sn_resume.proofs.Putting.{IsLeft}
use Rattle.sn_resume.proofs.saving.save_given.Given as goal

abbrev pub invariant-nodes : goal.invariant-nodes
invariant-nodes g l = record {
  put :
      IsLeft (flat_map given_line (given_from 0 l.machine.state.processors)) (given_lines l.machine.state.processors l.number)
      (g.R.Sink.written l.initial.sink) (g.R.Sink.written l.sink) (g.R.Sink.faults l.initial.sink) (g.R.Sink.faults l.sink);
  numbers : (i : ℕ) → i < l.number → All (λ byte. byte < 256) (get_or l.machine.state.processors i (first_processor 0 0)).given;
}
