use Rattle.std.proofs.Common.{◌≡◌, take}
use Rattle.rv_core.specs.Execution.{Executes, state_after}
use Rattle.save_text.proofs.replay.count_steps.Given as goal

abbrev pub invariant-records : goal.invariant-records
invariant-records l = record {
  steps : Executes l.image l.initial.flat (take l.place l.records);
  state : l.flat ≡ state_after l.image l.initial.flat (take l.place l.records);
}
