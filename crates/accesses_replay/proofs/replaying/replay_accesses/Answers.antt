use Rattle.std.proofs.Common.{refl, subst, sym}
use Rattle.script_replay.specs.Played.{MayBegin}
use Rattle.accesses_replay.proofs.Begun.{at-start, cores-start, asked-is, as-told, as-done, as-broken, as-applied}
use Rattle.accesses_replay.proofs.replaying.replay_accesses.Goals as goal

pub put_all-put-requires-clause-start : goal.put_all-put-requires-clause-start
put_all-put-requires-clause-start g c =
    at-start c.in-Some.ready.machine _ _ _ c.in-Some.ensures.machine c.events-events.result.now refl

pub put_all-put-requires-clause-rows : goal.put_all-put-requires-clause-rows
put_all-put-requires-clause-rows g c = cores-start c.in-Some.ready.machine _ _ _ c.in-Some.ensures.machine _ c.in-Some.ensures.rows

pub put_all-put-requires-clause-may : goal.put_all-put-requires-clause-may
put_all-put-requires-clause-may g c =
    subst MayBegin
    (sym (asked-is c.in-Some.ready.machine c.args.job _ c.events-events.result.now c.in-Some.ensures.machine c.events-events.ensures))
    c.requires

pub returns-in-Ok-clause-ok : goal.returns-in-Ok-clause-ok
returns-in-Ok-clause-ok g c =
    as-done _ c.args.job
    (asked-is c.in-Some.ready.machine c.args.job _ c.events-events.result.now c.in-Some.ensures.machine c.events-events.ensures)
    _ _ _ c.in-Ok.ensures.ok

pub returns-in-Ok-clause-told : goal.returns-in-Ok-clause-told
returns-in-Ok-clause-told g c =
    as-told _ c.args.job
    (asked-is c.in-Some.ready.machine c.args.job _ c.events-events.result.now c.in-Some.ensures.machine c.events-events.ensures)
    _ _ c.in-Ok.ensures.told

pub returns-clause-sink : goal.returns-clause-sink
returns-clause-sink g c = λ is.
    as-broken _ c.args.job
    (asked-is c.in-Some.ready.machine c.args.job _ c.events-events.result.now c.in-Some.ensures.machine c.events-events.ensures)
    _ _ _ c.in-Err.ensures.sink

pub returns-clause-applied : goal.returns-clause-applied
returns-clause-applied g c = λ is.
    as-applied _ c.args.job
    (asked-is c.in-Some.ready.machine c.args.job _ c.events-events.result.now c.in-Some.ensures.machine c.events-events.ensures)
    _ _ _ _ c.in-Err.ensures.applied
