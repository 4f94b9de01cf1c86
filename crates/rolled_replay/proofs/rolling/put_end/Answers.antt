use Rattle.std.proofs.lemmas.Result.{on_ok_weaker, on_err_weaker}
use Rattle.rolled_replay.specs.Stages.{machine_of}
use Rattle.rolled_replay.proofs.Summed.{end-put, end-broke}
use Rattle.rolled_replay.proofs.rolling.put_end.Goals as goal

pub returns-clause-ok : goal.returns-clause-ok
returns-clause-ok g c =
    on_ok_weaker c.put_counted_summary.result
    (λ put. λ r. end-put c.machine.result.now (machine_of c.args.last.now) c.machine.ensures c.args.watch _ c.args.events _ _ (put r))
    c.put_counted_summary.ensures.ok

pub returns-clause-err : goal.returns-clause-err
returns-clause-err g c =
    on_err_weaker c.put_counted_summary.result
    (λ broke. λ r. end-broke c.machine.result.now (machine_of c.args.last.now) c.machine.ensures c.args.watch _ c.args.events _ _ (broke r))
    c.put_counted_summary.ensures.err
