use Rattle.std.proofs.Common.{◌≡◌, ◌↔◌, length, drop}
use Rattle.rv_core.specs.Execution.{Executes, state_after}
use Rattle.call_reasons.proofs.verdict.run_through.Given as goal

abbrev pub invariant-records : goal.invariant-records
invariant-records l = record {
  state : state_after l.image l.flat (drop l.taken-index l.records) ≡ state_after l.image l.initial.flat l.records;
  steps : Executes l.image l.flat (drop l.taken-index l.records) ↔ Executes l.image l.initial.flat l.records;
  nodes : length l.flat.cores ≡ length l.initial.flat.cores;
}
