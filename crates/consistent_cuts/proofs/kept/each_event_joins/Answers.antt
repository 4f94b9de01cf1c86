use Rattle.consistent_cuts.proofs.Run.{step_holds}
use Rattle.consistent_cuts.proofs.kept.each_event_joins.Goals as goal

pub returns : goal.returns
returns c = step_holds
