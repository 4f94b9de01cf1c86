use Rattle.std.proofs.Common.{refl, arith}
use Rattle.std.proofs.lemmas.Result.{on_ok_weaker, on_err_weaker}
use Rattle.rolled_replay.proofs.Summed.{lines-broken, recovery-put, summary-broken}
use Rattle.rolled_replay.proofs.rolling.put_recovery.Goals as goal

pub returns-in-Ok-clause-ok : goal.returns-in-Ok-clause-ok
returns-in-Ok-clause-ok g c =
    on_ok_weaker c.put_end-put.result
    (λ put. λ r. recovery-put c.args.stage c.args.controls.now c.args.watch _ c.args.events c.in-Ok.last _ c.in-Ok.ensures.stage refl
    _ _ _ (c.in-Ok.ensures.ok r) (put r))
    c.put_end-put.ensures.ok

pub returns-in-Ok-clause-err : goal.returns-in-Ok-clause-err
returns-in-Ok-clause-err g c =
    on_err_weaker c.put_end-put.result
    (λ broke. λ r. summary-broken c.args.stage c.args.controls.now c.args.watch _ c.args.events c.in-Ok.last _ c.in-Ok.ensures.stage refl
    _ _ _ (c.in-Ok.ensures.ok r) (broke r))
    c.put_end-put.ensures.err

pub returns-in-Ok-clause-cause : goal.returns-in-Ok-clause-cause
returns-in-Ok-clause-cause g c =
    on_err_weaker c.put_end-put.result (λ rose. omega (arith, rose, c.put_controls.ensures.later)) c.put_end-put.ensures.cause

pub returns-in-Err-clause-err : goal.returns-in-Err-clause-err
returns-in-Err-clause-err g c =
    λ r. lines-broken c.args.stage c.args.controls.now c.args.watch _ c.args.events _ _ (c.in-Err.ensures.err r)
