use Rattle.consistent_cuts.proofs.ResumedRestored.{resumed_restored}
use Rattle.consistent_cuts.proofs.saved.resumed_is_restored.Goals as goal

pub returns : goal.returns
returns c = resumed_restored
