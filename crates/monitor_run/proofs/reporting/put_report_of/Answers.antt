use Rattle.std.proofs.lemmas.Result.{err_from_is_err_and}
use Rattle.monitor_run.proofs.MarkLaws.{report-put, seen-breaks, summary-breaks}
use Rattle.monitor_run.proofs.reporting.put_report_of.Goals as goal

pub returns-in_err-put_seen-clause-err : goal.returns-in_err-put_seen-clause-err
returns-in_err-put_seen-clause-err g c =
    let p = err_from_is_err_and c.from_residual.result c.from_residual.ensures.1 in
    rw p.1 (λ r. seen-breaks c.args.machine.now c.args.seen.now c.args.watch _ _ _ (c.in_err-put_seen.ensures.err r))

pub returns-in_err-put_summary-clause-err : goal.returns-in_err-put_summary-clause-err
returns-in_err-put_summary-clause-err g c =
    let p = err_from_is_err_and c.from_residual-in_err-put_summary.result c.from_residual-in_err-put_summary.ensures.1 in
    rw p.1 (λ r. summary-breaks c.args.machine.now c.args.seen.now c.args.watch _ _ _ _ (c.in_ok-put_seen.ensures.ok r)
    (c.in_err-put_summary.ensures.err r))

pub returns-clause-ok : goal.returns-clause-ok
returns-clause-ok g c =
    λ r. report-put c.args.machine.now c.args.seen.now c.args.watch _ _ _ _ (c.in_ok-put_seen.ensures.ok r) (c.in_ok-put_summary.ensures.ok r)
