use Rattle.std.proofs.Common.{ap, length, subst, sym, arith}
use Rattle.rolled_replay.specs.Rolled.{MayRoll}
use Rattle.rolled_replay.proofs.Begun.{at-start, asked-is}
use Rattle.rolled_replay.proofs.SameRoll.{as-told, as-rolled, as-broken, as-applied}
use Rattle.rolled_replay.proofs.rolling.roll.Goals as goal

pub put_all-requires-clause-start : goal.put_all-requires-clause-start
put_all-requires-clause-start g c =
    at-start c.in-Some.ready.machine _ _ _ c.in-Some.ensures c.events-events.result.now
    (omega (arith, ap length c.events-events.ensures, c.requires.few))

pub put_all-requires-clause-may : goal.put_all-requires-clause-may
put_all-requires-clause-may g c =
    subst MayRoll
    (sym (asked-is c.in-Some.ready.machine c.args.job _ c.events-events.result.now c.controls-2.result.now c.in-Some.ensures
    c.events-events.ensures c.controls-2.ensures)) c.requires

pub returns-in-Ok-clause-ok : goal.returns-in-Ok-clause-ok
returns-in-Ok-clause-ok g c =
    as-rolled _ c.args.job
    (asked-is c.in-Some.ready.machine c.args.job _ c.events-events.result.now c.controls-2.result.now c.in-Some.ensures
    c.events-events.ensures c.controls-2.ensures) _ _ _ c.in-Ok.ensures.ok

pub returns-in-Ok-clause-told : goal.returns-in-Ok-clause-told
returns-in-Ok-clause-told g c =
    as-told _ c.args.job
    (asked-is c.in-Some.ready.machine c.args.job _ c.events-events.result.now c.controls-2.result.now c.in-Some.ensures
    c.events-events.ensures c.controls-2.ensures) _ _ c.in-Ok.ensures.told

pub returns-clause-sink : goal.returns-clause-sink
returns-clause-sink g c = λ is.
    as-broken _ c.args.job
    (asked-is c.in-Some.ready.machine c.args.job _ c.events-events.result.now c.controls-2.result.now c.in-Some.ensures
    c.events-events.ensures c.controls-2.ensures) _ _ _ c.in-Err.ensures.sink

pub returns-clause-applied : goal.returns-clause-applied
returns-clause-applied g c = λ is.
    as-applied _ c.args.job
    (asked-is c.in-Some.ready.machine c.args.job _ c.events-events.result.now c.controls-2.result.now c.in-Some.ensures
    c.events-events.ensures c.controls-2.ensures) _ _ _ _ c.in-Err.ensures.applied
