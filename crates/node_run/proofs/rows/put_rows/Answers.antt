use Rattle.std.proofs.Common.{ap}
use Rattle.std.proofs.lemmas.Result.{err_from_is_err_and}
use Rattle.sn_base.specs.declared.config.Config.{Config}
use Rattle.node_run.proofs.TraceRows.{committed-executes, rows-all, rows-breaks_first, rows-breaks_second}
use Rattle.node_run.proofs.rows.put_rows.Goals as goal

pub put-requires-clause-execution : goal.put-requires-clause-execution
put-requires-clause-execution g c =
    committed-executes c.recovered-view.result c.args.machine.now c.image.result.now _ c.committed.result.now c.recovered-view.ensures.shown
    c.image.ensures (ap (λ (t : Config). t.nodes) c.config.ensures.same) c.committed.ensures c.recovered-view.ensures.consistent

pub returns-in_err-put-clause-err : goal.returns-in_err-put-clause-err
returns-in_err-put-clause-err g c =
    let p = err_from_is_err_and c.from_residual.result c.from_residual.ensures.1 in
    rw p.1
    (λ r. rows-breaks_first c.recovered-view.result c.args.machine.now c.image.result.now _ c.committed.result.now
    c.recovered-view.ensures.shown c.image.ensures (ap (λ (t : Config). t.nodes) c.config.ensures.same) c.committed.ensures c.args.watch _ _ _
    (c.in_err-put.ensures.err r))

pub returns-in_err-put_summary-clause-err : goal.returns-in_err-put_summary-clause-err
returns-in_err-put_summary-clause-err g c =
    let p = err_from_is_err_and c.from_residual-in_err-put_summary.result c.from_residual-in_err-put_summary.ensures.1 in
    rw p.1
    (λ r. rows-breaks_second c.recovered-view.result c.args.machine.now c.image.result.now _ c.committed.result.now
    c.recovered-view.ensures.shown c.image.ensures (ap (λ (t : Config). t.nodes) c.config.ensures.same) c.committed.ensures c.args.watch _ _ _ _
    (c.in_ok-put.ensures.ok r) (c.in_err-put_summary.ensures.err r))

pub returns-clause-ok : goal.returns-clause-ok
returns-clause-ok g c = λ r.
    rows-all c.recovered-view.result c.args.machine.now c.image.result.now _ c.committed.result.now c.recovered-view.ensures.shown
    c.image.ensures (ap (λ (t : Config). t.nodes) c.config.ensures.same) c.committed.ensures c.args.watch _ _ _ _
    (c.in_ok-put.ensures.ok r) (c.in_ok-put_summary.ensures.ok r)
