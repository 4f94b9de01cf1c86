use Rattle.std.proofs.Common.{refl}
use Rattle.ordered_run.specs.Pieces.{begins}
use Rattle.ordered_run.specs.Ordered.{ordered_journal}
use Rattle.seed_runs.proofs.LawfulRuns.{counted-in_order, broken-in_order}
use Rattle.seed_runs.proofs.Puts.{answered-each}
use Rattle.seed_runs.proofs.counted.run_counted.Goals as goal

pub put_counted-put-requires-clause-start : goal.put_counted-put-requires-clause-start
put_counted-put-requires-clause-start g c = c.in-Ok.ensures.room

pub put_counted-put-requires-clause-answered : goal.put_counted-put-requires-clause-answered
put_counted-put-requires-clause-answered g c =
    answered-each c.args.job (ordered_journal c.args.order (begins c.args.job)) _ c.in-Ok.played c.in-Ok.ensures

pub returns-in-Some-clause-ok : goal.returns-in-Some-clause-ok
returns-in-Some-clause-ok g c =
    counted-in_order c.args.order c.args.job c.requires _ _ _ _ c.in-Some.ending
    (c.in-Some.ensures.some c.args.job _ c.requires c.in-Ok.ensures refl)

pub returns-in-None-clause-sink : goal.returns-in-None-clause-sink
returns-in-None-clause-sink g c = λ e.
    broken-in_order c.args.order c.args.job c.requires _ _ _ _ (c.in-None.ensures.none c.args.job _ c.requires c.in-Ok.ensures refl refl)

pub returns-in-None-clause-cause : goal.returns-in-None-clause-cause
returns-in-None-clause-cause g c = λ e. c.in-None.ensures.cause c.args.job _ c.requires c.in-Ok.ensures refl
