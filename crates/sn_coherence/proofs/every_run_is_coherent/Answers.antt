use Rattle.sn_coherence.proofs.every_run_is_coherent.Goals as goal
use Rattle.sn_coherence.proofs.Runs.{run_coherent}

pub returns : goal.returns
returns c = run_coherent
