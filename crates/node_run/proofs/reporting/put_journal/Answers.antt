use Rattle.std.proofs.Common.{arith}
use Rattle.std.proofs.lemmas.Result.{err_from_is_err_and}
use Rattle.sink_pieces.proofs.SoFar.{SoFar-start}
use Rattle.node_run.proofs.Journals.{turn-next, turn-breaks, turns-whole, numbers-none, numbers-next, numbers-all}
use Rattle.node_run.proofs.reporting.put_journal.Goals as goal

pub turns-init : goal.turns-init
turns-init g c = record { put = λ r. SoFar-start _ _; numbers = numbers-none c.args.journal.now; later = omega arith }

pub turns-preserved : goal.turns-preserved
turns-preserved g c = record {
  put =
      λ r.
      turn-next c.args.journal.now c.turns.entry-index c.entry-item.result c.write_entry.new.line c.bytes.result.now _ _ _ c.turns-test.true
      c.entry-item.is c.write_entry.ensures.text c.bytes.ensures (c.turns.invariant.put r) (c.in_ok-put_report.ensures.ok r);
  numbers =
      numbers-next c.args.journal.now c.turns.entry-index c.entry-item.result c.turns-test.true c.entry-item.is
      c.write_entry.ensures.numbers c.turns.invariant.numbers;
  later = omega (arith, c.put_report.ensures.later, c.turns.invariant.later);
}

pub returns-in_err-put_report-clause-err : goal.returns-in_err-put_report-clause-err
returns-in_err-put_report-clause-err g c =
    let p = err_from_is_err_and c.from_residual.result c.from_residual.ensures.1 in
    rw p.1
    (λ r.
    turn-breaks c.args.journal.now c.turns.entry-index c.entry-item.result c.write_entry.new.line c.bytes.result.now _ _ _ c.turns-test.true
    c.entry-item.is c.write_entry.ensures.text c.bytes.ensures (c.turns.invariant.put r) (c.in_err-put_report.ensures.err r))

pub returns-clause-ok : goal.returns-clause-ok
returns-clause-ok g c =
    λ r. turns-whole c.args.journal.now c.turns.entry-index _ _ (omega (arith, c.turns-test.false, c.turns.auto.entry-index-end))
    (c.turns.invariant.put r)

pub returns-clause-numbers : goal.returns-clause-numbers
returns-clause-numbers g c =
    numbers-all c.args.journal.now c.turns.entry-index
    (omega (arith, c.turns-test.false, c.turns.auto.entry-index-end)) c.turns.invariant.numbers
