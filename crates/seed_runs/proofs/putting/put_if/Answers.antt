use Rattle.std.proofs.lemmas.Result.{on_ok_weaker, on_err_weaker}
use Rattle.seed_runs.proofs.Blocks.{if-put, if-broke, if-none}
use Rattle.seed_runs.proofs.putting.put_if.Goals as goal

pub returns-then-asked-clause-ok : goal.returns-then-asked-clause-ok
returns-then-asked-clause-ok g c =
    on_ok_weaker c.put_report.result (λ put. λ r. if-put c.args.asked c.args.text.now _ _ c.if-asked.true (put r)) c.put_report.ensures.ok

pub returns-then-asked-clause-err : goal.returns-then-asked-clause-err
returns-then-asked-clause-err g c =
    on_err_weaker c.put_report.result (λ broke. λ r. if-broke c.args.asked c.args.text.now _ _ c.if-asked.true (broke r))
    c.put_report.ensures.err

pub returns-else-asked-clause-ok : goal.returns-else-asked-clause-ok
returns-else-asked-clause-ok g c = λ r. if-none c.args.asked c.args.text.now _ c.if-asked.false
