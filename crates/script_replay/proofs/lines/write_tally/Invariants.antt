use Rattle.std.proofs.Common.{◌≤◌, ◌*◌, length}
use Rattle.std.specs.Prelude.{IfSome, slice_get}
use Rattle.sn_probe.specs.Probes.{meters_of}
use Rattle.script_replay.proofs.Tallies.{IsWrittenUpTo}
use Rattle.script_replay.proofs.lines.write_tally.Given as goal

abbrev pub invariant-places : goal.invariant-places
invariant-places g l = record {
  written : IfSome (slice_get
      (meters_of (λ b. (goal.Probe-dyn g (b.vtable, b.value)).first b.value) (λ b. (goal.Probe-dyn g (b.vtable, b.value)).tally b.value)
      (λ b. (goal.Probe-dyn g (b.vtable, b.value)).step b.value) l.probes.probes.items) l.probe)
      (IsWrittenUpTo l.before l.probe l.place l.line);
  short : length l.line ≤ 80 * l.place;
}
