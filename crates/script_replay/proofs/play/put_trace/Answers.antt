use Rattle.std.proofs.Common.{arith}
use Rattle.std.proofs.lemmas.Result.{err_from_is_err_and}
use Rattle.sink_pieces.proofs.SoFar.{SoFar-start}
use Rattle.script_replay.proofs.PieceLaws.{trace-next, trace-breaks, trace-whole}
use Rattle.script_replay.proofs.Values.{values-none, values-next, values-all}
use Rattle.script_replay.proofs.play.put_trace.Goals as goal

pub records-init : goal.records-init
records-init g c = record { put = λ r. SoFar-start _ _; values = values-none c.args.records.now; later = omega arith }

pub records-preserved : goal.records-preserved
records-preserved g c = record {
  put =
      λ r.
      trace-next c.args.records.now c.records.taken-index c.taken-item.result c.clear.new.self c.trace.new.self c.bytes.result.now _ _ _
      c.records-test.true c.taken-item.is c.clear.ensures c.trace.ensures.text c.bytes.ensures (c.records.invariant.put r)
      (c.in_ok-put_report.ensures.ok r);
  values =
      values-next c.args.records.now c.records.taken-index c.taken-item.result c.records-test.true c.taken-item.is c.trace.ensures.values
      c.records.invariant.values;
  later = omega (arith, c.put_report.ensures.later, c.records.invariant.later);
}

pub returns-in_err-put_report-clause-err : goal.returns-in_err-put_report-clause-err
returns-in_err-put_report-clause-err g c =
    let p = err_from_is_err_and c.from_residual.result c.from_residual.ensures.1 in
    rw p.1
    (λ r.
    trace-breaks c.args.records.now c.records.taken-index c.taken-item.result c.clear.new.self c.trace.new.self c.bytes.result.now _ _ _
    c.records-test.true c.taken-item.is c.clear.ensures c.trace.ensures.text c.bytes.ensures (c.records.invariant.put r)
    (c.in_err-put_report.ensures.err r))

pub returns-clause-ok : goal.returns-clause-ok
returns-clause-ok g c =
    λ r. trace-whole c.args.records.now c.records.taken-index _ _ (omega (arith, c.records-test.false, c.records.auto.taken-index-end))
    (c.records.invariant.put r)

pub returns-clause-values : goal.returns-clause-values
returns-clause-values g c =
    values-all c.args.records.now c.records.taken-index (omega (arith, c.records-test.false, c.records.auto.taken-index-end))
    c.records.invariant.values
