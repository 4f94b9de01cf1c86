use Rattle.std.specs.Prelude.{IfSome, slice_get}
use Rattle.sn_probe.specs.Probes.{meters_of}
use Rattle.state_lines.proofs.Summed.{AreTold}
use Rattle.state_lines.proofs.summary.add_each_number.Given as goal

abbrev pub invariant-places : goal.invariant-places
invariant-places g l = IfSome (slice_get
    (meters_of (λ b. (goal.Probe-dyn g (b.vtable, b.value)).first b.value) (λ b. (goal.Probe-dyn g (b.vtable, b.value)).tally b.value)
    (λ b. (goal.Probe-dyn g (b.vtable, b.value)).step b.value) l.probes.probes.items) l.probe)
    (AreTold l.initial.text.items l.place l.text.items l.others)
