use Rattle.std.specs.Prelude.{map, take}
use Rattle.sn_probe.specs.Probes.{meters_of, tallies_of}
use Rattle.state_json.specs.Lines.{tally_text}
use Rattle.state_texts.proofs.Lists.{AreBehind}
use Rattle.state_lines.proofs.summary.add_each_tally.Given as goal

abbrev pub invariant-probes : goal.invariant-probes
invariant-probes g l = AreBehind l.initial.text.items l.text.items (map tally_text (take l.probe (tallies_of
    (meters_of (λ b. (goal.Probe-dyn g (b.vtable, b.value)).first b.value) (λ b. (goal.Probe-dyn g (b.vtable, b.value)).tally b.value)
    (λ b. (goal.Probe-dyn g (b.vtable, b.value)).step b.value) l.probes.probes.items)))) l.others
