use Rattle.std.proofs.lemmas.Result.{err_from_is_err_and}
use Rattle.node_run.proofs.Journals.{script-all, script-breaks_first, script-breaks_second}
use Rattle.node_run.proofs.reporting.put_script.Goals as goal

pub returns-in_err-put_journal-clause-err : goal.returns-in_err-put_journal-clause-err
returns-in_err-put_journal-clause-err g c =
    let p = err_from_is_err_and c.from_residual.result c.from_residual.ensures.1 in
    rw p.1 (λ r. script-breaks_first c.args.machine.now c.args.journal.now c.args.watch _ _ _ (c.in_err-put_journal.ensures.err r))

pub returns-in_err-put_summary-clause-err : goal.returns-in_err-put_summary-clause-err
returns-in_err-put_summary-clause-err g c =
    let p = err_from_is_err_and c.from_residual-in_err-put_summary.result c.from_residual-in_err-put_summary.ensures.1 in
    rw p.1 (λ r. script-breaks_second c.args.machine.now c.args.journal.now c.args.watch _ _ _ _ (c.in_ok-put_journal.ensures.ok r)
    (c.in_err-put_summary.ensures.err r))

pub returns-clause-ok : goal.returns-clause-ok
returns-clause-ok g c =
    λ r. script-all c.args.machine.now c.args.journal.now c.args.watch _ _ _ _ (c.in_ok-put_journal.ensures.ok r)
    (c.in_ok-put_summary.ensures.ok r)
