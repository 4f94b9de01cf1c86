use Rattle.std.proofs.Common.{◌∙◌, subst, sym, ap, length, arith}
use Rattle.script_replay.specs.Played.{MayBegin}
use Rattle.script_replay.proofs.Performed.{made-at_start, ready-replay, ready-on}
use Rattle.script_replay.proofs.SameReplay.{as-replayed, as-broken, as-applied, as-told}
use Rattle.script_replay.proofs.replaying.replay.Goals as goal

pub replay_on-requires-clause-ready : goal.replay_on-requires-clause-ready
replay_on-requires-clause-ready g c =
    ready-on c.in-Ok.machine c.args.job c.new.result _ (made-at_start c.in-Ok.machine c.args.job.program c.args.job.config _ c.in-Ok.ensures.start)
    (omega (arith, ap length c.new.ensures, ap length c.events-events.ensures, c.requires.few))

pub replay_on-requires-clause-begin : goal.replay_on-requires-clause-begin
replay_on-requires-clause-begin g c =
    subst MayBegin
    (sym (ready-replay c.in-Ok.machine c.args.job c.new.result _ (made-at_start c.in-Ok.machine c.args.job.program c.args.job.config _ c.in-Ok.ensures.start) (c.new.ensures ∙ c.events-events.ensures))) c.requires

pub returns-clause-ok : goal.returns-clause-ok
returns-clause-ok g c =
    as-replayed _ c.args.job (ready-replay c.in-Ok.machine c.args.job c.new.result _ (made-at_start c.in-Ok.machine c.args.job.program c.args.job.config _ c.in-Ok.ensures.start) (c.new.ensures ∙ c.events-events.ensures))
    _ _ _ c.replay_on.result c.replay_on.ensures.ok

pub returns-clause-told : goal.returns-clause-told
returns-clause-told g c =
    as-told c.replay_on.result _ c.args.job _ _
    (ready-replay c.in-Ok.machine c.args.job c.new.result _ (made-at_start c.in-Ok.machine c.args.job.program c.args.job.config _ c.in-Ok.ensures.start) (c.new.ensures ∙ c.events-events.ensures)) c.replay_on.ensures.told

pub returns-clause-sink : goal.returns-clause-sink
returns-clause-sink g c =
    as-broken _ c.args.job (ready-replay c.in-Ok.machine c.args.job c.new.result _ (made-at_start c.in-Ok.machine c.args.job.program c.args.job.config _ c.in-Ok.ensures.start) (c.new.ensures ∙ c.events-events.ensures))
    _ _ _ c.replay_on.ensures.sink

pub returns-clause-applied : goal.returns-clause-applied
returns-clause-applied g c =
    as-applied _ c.args.job (ready-replay c.in-Ok.machine c.args.job c.new.result _ (made-at_start c.in-Ok.machine c.args.job.program c.args.job.config _ c.in-Ok.ensures.start) (c.new.ensures ∙ c.events-events.ensures))
    _ _ _ _ c.replay_on.ensures.applied
