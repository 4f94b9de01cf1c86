use Rattle.std.proofs.Common.{refl, subst, sym}
use Rattle.saved_replay.specs.Shown.{MaySave}
use Rattle.saved_replay.proofs.Begun.{at-start, asked-is, as-told, as-done, as-broken, as-applied}
use Rattle.saved_replay.proofs.saving.replay_saved.Goals as goal

pub put_all-put-requires-clause-start : goal.put_all-put-requires-clause-start
put_all-put-requires-clause-start g c =
    at-start c.in-Ok-with_room.machine _ _ _ c.in-Ok-with_room.ensures.start c.events-events.result.now refl

pub put_all-put-requires-clause-may : goal.put_all-put-requires-clause-may
put_all-put-requires-clause-may g c =
    subst MaySave
    (sym (asked-is c.in-Ok-with_room.machine c.args.job _ c.events-events.result.now c.in-Ok-with_room.ensures.start c.events-events.ensures))
    c.requires

pub returns-in-Ok-put-clause-ok : goal.returns-in-Ok-put-clause-ok
returns-in-Ok-put-clause-ok g c =
    as-done _ c.args.job
    (asked-is c.in-Ok-with_room.machine c.args.job _ c.events-events.result.now c.in-Ok-with_room.ensures.start c.events-events.ensures)
    _ _ c.in-Ok-put.ensures.ok

pub returns-in-Ok-put-clause-told : goal.returns-in-Ok-put-clause-told
returns-in-Ok-put-clause-told g c =
    as-told _ c.args.job
    (asked-is c.in-Ok-with_room.machine c.args.job _ c.events-events.result.now c.in-Ok-with_room.ensures.start c.events-events.ensures)
    _ _ c.in-Ok-put.ensures.told

pub returns-clause-sink : goal.returns-clause-sink
returns-clause-sink g c = λ is.
    as-broken _ c.args.job
    (asked-is c.in-Ok-with_room.machine c.args.job _ c.events-events.result.now c.in-Ok-with_room.ensures.start c.events-events.ensures)
    _ _ c.in-Err.ensures.sink

pub returns-clause-applied : goal.returns-clause-applied
returns-clause-applied g c = λ is.
    as-applied _ c.args.job
    (asked-is c.in-Ok-with_room.machine c.args.job _ c.events-events.result.now c.in-Ok-with_room.ensures.start c.events-events.ensures)
    _ _ _ _ c.in-Err.ensures.applied
