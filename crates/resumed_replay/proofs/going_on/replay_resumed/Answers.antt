use Rattle.std.proofs.Common.{ap, arith}
use Rattle.sn_machine.specs.Machine.{MachineData}
use Rattle.resumed_replay.proofs.SameJob.{few-in_all, may-begin, as-told, as-done, as-broken, as-applied}
use Rattle.resumed_replay.proofs.going_on.replay_resumed.Goals as goal

pub ready-requires : goal.ready-requires
ready-requires g c = few-in_all c.args.job c.events-events.result.now c.events-events.ensures c.requires

pub put_all-put-requires-clause-may : goal.put_all-put-requires-clause-may
put_all-put-requires-clause-may g c =
    may-begin c.args.job c.events-events.result.now c.events-events.ensures c.ready.new.machine _ c.in-Ok.ensures.ok c.requires

pub put_all-put-requires-clause-room : goal.put_all-put-requires-clause-room
put_all-put-requires-clause-room g c = omega (arith, ap (λ (m : MachineData). m.spare) c.in-Ok.ensures.ok)

pub returns-in-Ok-put-clause-ok : goal.returns-in-Ok-put-clause-ok
returns-in-Ok-put-clause-ok g c =
    as-done c.args.job c.events-events.result.now c.events-events.ensures c.ready.new.machine _ c.in-Ok.ensures.ok _ _ _
    c.in-Ok-put.ensures.ok

pub returns-in-Ok-put-clause-told : goal.returns-in-Ok-put-clause-told
returns-in-Ok-put-clause-told g c =
    as-told c.args.job c.events-events.result.now c.events-events.ensures c.ready.new.machine _ c.in-Ok.ensures.ok _ _
    c.in-Ok-put.ensures.told

pub returns-clause-sink : goal.returns-clause-sink
returns-clause-sink g c = λ is.
    as-broken c.args.job c.events-events.result.now c.events-events.ensures c.ready.new.machine _ c.in-Ok.ensures.ok _ _ _
    c.in-Err.ensures.sink

pub returns-clause-applied : goal.returns-clause-applied
returns-clause-applied g c = λ is.
    as-applied c.args.job c.events-events.result.now c.events-events.ensures c.ready.new.machine _ c.in-Ok.ensures.ok _ _ _ _
    c.in-Err.ensures.applied
