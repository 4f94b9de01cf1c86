use Rattle.std.proofs.Common.{◌∙◌}
use Rattle.std.proofs.lemmas.Result.{err_from_is_err_and}
use Rattle.script_replay.proofs.PieceLaws.{summed-all, summed-breaks_first, summed-breaks_second}
use Rattle.script_replay.proofs.play.put_counted_summary.Goals as goal

pub returns-in_err-put_report-clause-err : goal.returns-in_err-put_report-clause-err
returns-in_err-put_report-clause-err g c =
    let p = err_from_is_err_and c.from_residual.result c.from_residual.ensures.1 in
    rw p.1 (λ r. summed-breaks_first (record c.args.machine.now { applied = c.args.events }) c.args.watch c.args.before.now _ c.bytes.result.now
    (c.bytes.ensures ∙ c.write_summary.ensures) _ _ (c.in_err-put_report.ensures.err r))

pub returns-in_err-put_tallies-clause-err : goal.returns-in_err-put_tallies-clause-err
returns-in_err-put_tallies-clause-err g c =
    let p = err_from_is_err_and c.from_residual-in_err-put_tallies.result c.from_residual-in_err-put_tallies.ensures.1 in
    rw p.1 (λ r. summed-breaks_second (record c.args.machine.now { applied = c.args.events }) c.args.watch c.args.before.now _ c.bytes.result.now
    (c.bytes.ensures ∙ c.write_summary.ensures) _ _ _ (c.in_ok-put_report.ensures.ok r) (c.in_err-put_tallies.ensures.err r))

pub returns-clause-ok : goal.returns-clause-ok
returns-clause-ok g c =
    λ r. summed-all (record c.args.machine.now { applied = c.args.events }) c.args.watch c.args.before.now _ c.bytes.result.now (c.bytes.ensures ∙ c.write_summary.ensures) _ _ _
    (c.in_ok-put_report.ensures.ok r) (c.in_ok-put_tallies.ensures.ok r)
