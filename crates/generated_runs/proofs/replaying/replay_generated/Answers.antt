use Rattle.script_replay.proofs.SameReplay.{as-replayed, as-broken, as-applied, as-told}
use Rattle.generated_runs.specs.Generated.{generated_replay}
use Rattle.generated_runs.proofs.Replayed.{replay_is, may_begin, is_ready, it_serves}
use Rattle.generated_runs.proofs.replaying.replay_generated.Goals as goal

pub replay_on-requires : goal.replay_on-requires
replay_on-requires g c = record {
  ready = is_ready c.args.size c.new-schedule.result c.in-Ok.machine c.new-schedule.ensures.start c.in-Ok.ensures.fresh c.in-Ok.ensures.room;
  serves = it_serves c.args.size c.new-schedule.result c.in-Ok.machine c.new-schedule.ensures.start c.in-Ok.ensures.fresh;
  begin = may_begin c.args.size c.new-schedule.result c.in-Ok.machine c.new-schedule.ensures.start c.in-Ok.ensures.fresh c.args.showing
      c.requires.few c.requires.watched;
}

pub returns-clause-ok : goal.returns-clause-ok
returns-clause-ok g c =
    as-replayed _ (generated_replay c.args.size c.args.showing)
    (replay_is c.args.size c.new-schedule.result c.in-Ok.machine c.new-schedule.ensures.start c.in-Ok.ensures.fresh c.args.showing)
    _ _ _ c.replay_on.result c.replay_on.ensures.ok

pub returns-clause-told : goal.returns-clause-told
returns-clause-told g c =
    as-told c.replay_on.result _ (generated_replay c.args.size c.args.showing) _ _
    (replay_is c.args.size c.new-schedule.result c.in-Ok.machine c.new-schedule.ensures.start c.in-Ok.ensures.fresh c.args.showing)
    c.replay_on.ensures.told

pub returns-clause-sink : goal.returns-clause-sink
returns-clause-sink g c =
    as-broken _ (generated_replay c.args.size c.args.showing)
    (replay_is c.args.size c.new-schedule.result c.in-Ok.machine c.new-schedule.ensures.start c.in-Ok.ensures.fresh c.args.showing)
    _ _ _ c.replay_on.ensures.sink

pub returns-clause-applied : goal.returns-clause-applied
returns-clause-applied g c =
    as-applied _ (generated_replay c.args.size c.args.showing)
    (replay_is c.args.size c.new-schedule.result c.in-Ok.machine c.new-schedule.ensures.start c.in-Ok.ensures.fresh c.args.showing)
    _ _ _ _ c.replay_on.ensures.applied
