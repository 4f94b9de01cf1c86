use Rattle.std.proofs.Common.{arith}
use Rattle.std.proofs.lemmas.Result.{err_from_is_err_and}
use Rattle.sink_pieces.proofs.SoFar.{SoFar-start}
use Rattle.script_replay.proofs.Tallies.{tallies-next, tallies-breaks, tallies-whole}
use Rattle.script_replay.proofs.play.put_tallies.Goals as goal

pub probes-init : goal.probes-init
probes-init g c = record { put = λ r. SoFar-start _ _; later = omega arith }

pub probes-preserved : goal.probes-preserved
probes-preserved g c = record {
  put =
      λ r.
      tallies-next c.args.before.now _ c.args.probes.now.probes.items c.count-probe-end.result c.probes.probe c.write_tally.new.line
      c.bytes.result.now _ _ _ c.probes-test.true c.count-probe-end.ensures c.write_tally.ensures c.bytes.ensures (c.probes.invariant.put r)
      (c.in_ok-put_report.ensures.ok r);
  later = omega (arith, c.put_report.ensures.later, c.probes.invariant.later);
}

pub returns-in_err-put_report-clause-err : goal.returns-in_err-put_report-clause-err
returns-in_err-put_report-clause-err g c =
    let p = err_from_is_err_and c.from_residual.result c.from_residual.ensures.1 in
    rw p.1
    (λ r.
    tallies-breaks c.args.before.now _ c.args.probes.now.probes.items c.count-probe-end.result c.probes.probe c.write_tally.new.line
    c.bytes.result.now _ _ _ c.probes-test.true c.count-probe-end.ensures c.write_tally.ensures c.bytes.ensures (c.probes.invariant.put r)
    (c.in_err-put_report.ensures.err r))

pub returns-clause-ok : goal.returns-clause-ok
returns-clause-ok g c =
    λ r. tallies-whole c.args.before.now _ c.args.probes.now.probes.items c.probes.probe _ _
    (omega (arith, c.probes-test.false, c.probes.auto.probe-end, c.count-probe-end.ensures)) (c.probes.invariant.put r)
