use Rattle.std.proofs.Common.{arith}
use Rattle.state_lines.proofs.Summed.{tallies-next}
use Rattle.state_lines.proofs.summary.add_each_tally.Goals as goal

pub probes-preserved : goal.probes-preserved
probes-preserved g c =
    tallies-next _ c.args.probes.now.probes.items c.probes.probe c.args.text.now.items c.probes.text.items _ _ c.probes.others
    (omega (arith, c.probes-test.true, c.count-probe-end.ensures)) c.probes.invariant c.in_ok-add_comma.ensures c.in_ok-add_tally.ensures
