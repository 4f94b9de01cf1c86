use Rattle.consistent_cuts.proofs.Run.{origin_holds}
use Rattle.consistent_cuts.proofs.kept.origin_is_joined.Goals as goal

pub returns : goal.returns
returns c = origin_holds
