use Rattle.std.proofs.Common.{◌≡◌, true, sym, subst}
use Rattle.std.specs.List.{All}
use Rattle.std.proofs.lemmas.Result.{on_ok_weaker, on_err_weaker}
use Rattle.rolling_recovery.specs.Controls.{control_fits}
use Rattle.rolling_recovery.specs.Rolling.{RollingData}
use Rattle.rolled_replay.proofs.Summed.{begun-put, begun-broke}
use Rattle.rolled_replay.proofs.rolling.put_rest.Goals as goal

pub start-requires : goal.start-requires
start-requires g c = c.requires.room

pub put_recovery-requires-clause-fit : goal.put_recovery-requires-clause-fit
put_recovery-requires-clause-fit g c =
    subst (λ (r : RollingData). All (λ call. control_fits r.machine.config.nodes call ≡ true) c.args.controls.now) (sym c.start.ensures)
    c.requires.fit

pub returns-clause-ok : goal.returns-clause-ok
returns-clause-ok g c =
    on_ok_weaker c.put_recovery.result
    (λ put. λ r. begun-put c.start.result c.args.ready.machine c.start.ensures c.args.controls.now c.args.watch _ c.args.events _ _ (put r))
    c.put_recovery.ensures.ok

pub returns-clause-err : goal.returns-clause-err
returns-clause-err g c =
    on_err_weaker c.put_recovery.result
    (λ broke. λ r. begun-broke c.start.result c.args.ready.machine c.start.ensures c.args.controls.now c.args.watch _ c.args.events _ _
    (broke r))
    c.put_recovery.ensures.err
