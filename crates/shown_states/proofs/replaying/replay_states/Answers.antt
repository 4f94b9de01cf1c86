use Rattle.std.proofs.Common.{subst, sym, ap, length, arith}
use Rattle.script_replay.proofs.Performed.{made-at_start}
use Rattle.shown_states.specs.Shown.{MayBegin}
use Rattle.shown_states.proofs.SameJob.{job-is, job-ready, as-shown, as-broken, as-applied, as-cut, as-told}
use Rattle.shown_states.proofs.replaying.replay_states.Goals as goal

pub play-put-requires-clause-ready : goal.play-put-requires-clause-ready
play-put-requires-clause-ready g c =
    job-ready c.in-Ok.machine c.args.job c.events-events.result.now _ (made-at_start c.in-Ok.machine c.args.job.program c.args.job.config _ c.in-Ok.ensures.start)
    (omega (arith, ap length c.events-events.ensures, c.requires.few))

pub play-put-requires-clause-begin : goal.play-put-requires-clause-begin
play-put-requires-clause-begin g c = subst MayBegin (sym (job-is c.in-Ok.machine c.args.job c.events-events.result.now _ (made-at_start c.in-Ok.machine c.args.job.program c.args.job.config _ c.in-Ok.ensures.start) c.events-events.ensures)) c.requires

pub returns-clause-ok : goal.returns-clause-ok
returns-clause-ok g c = as-shown _ c.args.job (job-is c.in-Ok.machine c.args.job c.events-events.result.now _ (made-at_start c.in-Ok.machine c.args.job.program c.args.job.config _ c.in-Ok.ensures.start) c.events-events.ensures) _ _ _ c.play-put.result c.play-put.ensures.ok

pub returns-clause-told : goal.returns-clause-told
returns-clause-told g c = as-told c.play-put.result _ c.args.job _ _ (job-is c.in-Ok.machine c.args.job c.events-events.result.now _ (made-at_start c.in-Ok.machine c.args.job.program c.args.job.config _ c.in-Ok.ensures.start) c.events-events.ensures) c.play-put.ensures.told

pub returns-clause-sink : goal.returns-clause-sink
returns-clause-sink g c = as-broken _ c.args.job (job-is c.in-Ok.machine c.args.job c.events-events.result.now _ (made-at_start c.in-Ok.machine c.args.job.program c.args.job.config _ c.in-Ok.ensures.start) c.events-events.ensures) _ _ _ c.play-put.ensures.sink

pub returns-clause-applied : goal.returns-clause-applied
returns-clause-applied g c = as-applied _ c.args.job (job-is c.in-Ok.machine c.args.job c.events-events.result.now _ (made-at_start c.in-Ok.machine c.args.job.program c.args.job.config _ c.in-Ok.ensures.start) c.events-events.ensures) _ _ _ _ c.play-put.ensures.applied

pub returns-clause-memory : goal.returns-clause-memory
returns-clause-memory g c = as-cut _ c.args.job (job-is c.in-Ok.machine c.args.job c.events-events.result.now _ (made-at_start c.in-Ok.machine c.args.job.program c.args.job.config _ c.in-Ok.ensures.start) c.events-events.ensures) _ _ _ _ c.play-put.ensures.memory
