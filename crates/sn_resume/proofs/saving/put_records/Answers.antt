use Rattle.std.proofs.Common.{arith, refl}
use Rattle.std.proofs.lemmas.List.Elements.{All-nil}
use Rattle.std.proofs.lemmas.Result.{err_from_is_err_and}
use Rattle.sn_text.specs.Written.{HasValues}
use Rattle.save_text.specs.Text.{record_line}
use Rattle.sn_resume.proofs.Parts.{lines_next, lines_none, all_more, all_done}
use Rattle.sn_resume.proofs.Putting.{all_left, next_put, next_broken, none_left}
use Rattle.sn_resume.proofs.saving.put_records.Goals as goal

pub records-init : goal.records-init
records-init g c = record { put = all_left _ _ _ _ refl; values = All-nil HasValues }

pub records-preserved : goal.records-preserved
records-preserved g c = record {
  put =
      next_put _ _ _ _ _ _ _ _ _ _
      (lines_next record_line c.args.records.now c.records.taken-index c.taken-item.result c.records-test.true c.taken-item.is)
      c.records.invariant.put c.in_ok-put_record.ensures.put;
  values =
      all_more HasValues c.args.records.now c.records.taken-index c.taken-item.result c.records-test.true c.taken-item.is
      c.records.invariant.values c.put_record.ensures.values;
}

pub returns-in_err-put_record-clause-put : goal.returns-in_err-put_record-clause-put
returns-in_err-put_record-clause-put g c =
    let p = err_from_is_err_and c.from_residual.result c.from_residual.ensures.1 in
    rw p.1
    (next_broken _ _ _ _ _ _ _ _ _ _
    (lines_next record_line c.args.records.now c.records.taken-index c.taken-item.result c.records-test.true c.taken-item.is)
    c.records.invariant.put c.in_err-put_record.ensures.put)

pub returns-clause-put : goal.returns-clause-put
returns-clause-put g c =
    none_left _ _ _ _ _ _
    (lines_none record_line c.args.records.now c.records.taken-index (omega (arith, c.records-test.false, c.records.auto.taken-index-end)))
    c.records.invariant.put

pub returns-clause-values : goal.returns-clause-values
returns-clause-values g c =
    all_done HasValues c.args.records.now c.records.taken-index (omega (arith, c.records-test.false, c.records.auto.taken-index-end))
    c.records.invariant.values
