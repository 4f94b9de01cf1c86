use Rattle.std.proofs.Common.{◌≡◌, vec_len}
use Rattle.sn_probe.specs.Probes.{told_of}
use Rattle.sn_probe.proofs.Observation.{IsToldUpTo}
use Rattle.sn_probe.proofs.probe_set.tell_all.Given as goal

abbrev pub invariant-each : goal.invariant-each
invariant-each g l = record {
  told : IsToldUpTo (λ b. let p = goal.Probe-dyn g (b.vtable, b.value) in
      record { first = p.first b.value; tally = p.tally b.value; step = p.step b.value })
      (told_of l.number l.event l.answer) l.place l.initial.probes.items l.probes.items;
  same : vec_len l.probes ≡ vec_len l.initial.probes;
}
