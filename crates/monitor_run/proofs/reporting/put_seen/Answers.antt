use Rattle.std.proofs.Common.{arith}
use Rattle.std.proofs.lemmas.Result.{err_from_is_err_and}
use Rattle.sink_pieces.proofs.SoFar.{SoFar-start}
use Rattle.monitor_run.proofs.MarkLaws.{mark-next, mark-breaks, marks-whole}
use Rattle.monitor_run.proofs.reporting.put_seen.Goals as goal

pub marks-init : goal.marks-init
marks-init g c = record { put = λ r. SoFar-start _ _; later = omega arith }

pub marks-preserved : goal.marks-preserved
marks-preserved g c = record {
  put =
      λ r.
      mark-next c.args.seen.now c.marks.mark-index _ c.write_seen.new.line c.bytes.result.now _ _ _ c.marks-test.true c.write_seen.ensures
      c.bytes.ensures (c.marks.invariant.put r) (c.in_ok-put_report.ensures.ok r);
  later = omega (arith, c.put_report.ensures.later, c.marks.invariant.later);
}

pub returns-in_err-put_report-clause-err : goal.returns-in_err-put_report-clause-err
returns-in_err-put_report-clause-err g c =
    let p = err_from_is_err_and c.from_residual.result c.from_residual.ensures.1 in
    rw p.1
    (λ r.
    mark-breaks c.args.seen.now c.marks.mark-index _ c.write_seen.new.line c.bytes.result.now _ _ _ c.marks-test.true c.write_seen.ensures
    c.bytes.ensures (c.marks.invariant.put r) (c.in_err-put_report.ensures.err r))

pub returns-clause-ok : goal.returns-clause-ok
returns-clause-ok g c =
    λ r. marks-whole c.args.seen.now c.marks.mark-index _ _ (omega (arith, c.marks-test.false, c.marks.auto.mark-index-end))
    (c.marks.invariant.put r)
