use Rattle.std.proofs.Common.{sym, subst}
use Rattle.std.specs.Prelude.{IfOk}
use Rattle.ordered_run.specs.Run.{Run}
use Rattle.ordered_run.specs.Pieces.{begins}
use Rattle.ordered_run.specs.NodeRunShown.{MayBegin as MayRun}
use Rattle.ordered_run.specs.Ordered.{ordered_journal}
use Rattle.seed_runs.specs.Played.{IsPlayed}
use Rattle.seed_runs.proofs.Puts.{may-run}
use Rattle.seed_runs.proofs.block.play_seed.Goals as goal

pub play-requires : goal.play-requires
play-requires c = subst MayRun (sym c.in_ok-run.ensures) (may-run c.args.job.now c.args.seed c.requires)

pub returns : goal.returns
returns c =
    subst (λ (r : Run). IfOk c.play.result (λ played. IsPlayed r (ordered_journal c.args.job.now.order (begins r))
    c.args.job.now.statistics played)) c.in_ok-run.ensures c.play.ensures
