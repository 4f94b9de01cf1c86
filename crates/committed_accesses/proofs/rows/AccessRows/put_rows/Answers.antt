use Rattle.std.proofs.Common.{arith, drop, ◌+◌, ◌∙◌}
use Rattle.std.proofs.lemmas.Result.{err_from_is_err_and}
use Rattle.sink_pieces.proofs.SoFar.{SoFar-start}
use Rattle.committed_accesses.proofs.Stepping.{is_inside, may_now}
use Rattle.committed_accesses.proofs.RowPieces.{good_here, good_later, rows-next, rows-broken, rows-whole}
use Rattle.committed_accesses.proofs.rows.AccessRows.put_rows.Goals as goal

pub records-init : goal.records-init
records-init g c = record { put = λ r. SoFar-start _ _; good = c.requires; later = omega arith }

pub write-requires-clause-core : goal.write-requires-clause-core
write-requires-clause-core g c =
    is_inside c.args.image.now c.records.self.cores c.taken-item.result (drop (c.records.taken-index + 1) c.args.records.now)
    (good_here c.args.image.now c.records.self.cores c.args.records.now c.records.taken-index c.taken-item.result c.records-test.true
    c.taken-item.is c.records.invariant.good)

pub write-requires-clause-may : goal.write-requires-clause-may
write-requires-clause-may g c =
    may_now c.args.image.now c.records.self.cores c.taken-item.result (drop (c.records.taken-index + 1) c.args.records.now)
    (good_here c.args.image.now c.records.self.cores c.args.records.now c.records.taken-index c.taken-item.result c.records-test.true
    c.taken-item.is c.records.invariant.good)

pub records-preserved : goal.records-preserved
records-preserved g c = record {
  put =
      λ r.
      rows-next c.args.image.now c.records.self.cores c.args.records.now c.records.taken-index c.taken-item.result c.records-test.true
      c.taken-item.is c.records.invariant.good _ c.line.result.now _ _ _ (c.line.ensures ∙ c.write.ensures.line)
      (c.records.invariant.put r) c.write.new.self.cores c.write.ensures.cores (c.in_ok-put_report.ensures.ok r);
  good =
      good_later c.args.image.now c.records.self.cores c.args.records.now c.records.taken-index c.taken-item.result c.records-test.true
      c.taken-item.is c.records.invariant.good c.write.new.self.cores c.write.ensures.cores;
  later = omega (arith, c.put_report.ensures.later, c.records.invariant.later);
}

pub returns-in_err-put_report-clause-err : goal.returns-in_err-put_report-clause-err
returns-in_err-put_report-clause-err g c =
    let p = err_from_is_err_and c.from_residual.result c.from_residual.ensures.1 in
    rw p.1
    (λ r.
    rows-broken c.args.image.now c.records.self.cores c.args.records.now c.records.taken-index c.taken-item.result c.records-test.true
    c.taken-item.is c.records.invariant.good _ c.line.result.now _ _ _ (c.line.ensures ∙ c.write.ensures.line)
    (c.records.invariant.put r) (c.in_err-put_report.ensures.err r))

pub returns-clause-ok : goal.returns-clause-ok
returns-clause-ok g c =
    λ r. rows-whole c.args.image.now c.records.self.cores c.args.records.now c.records.taken-index _ _ _
    (omega (arith, c.records-test.false, c.records.auto.taken-index-end)) (c.records.invariant.put r)
