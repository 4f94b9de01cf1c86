use Rattle.sn_coherence.proofs.some_runs_can_happen.Goals as goal
use Rattle.sn_coherence.proofs.Example.{handed_over_runs, handed_over_ends, recovered_runs, recovered_ends}

pub returns-clause-handed_over : goal.returns-clause-handed_over
returns-clause-handed_over c = (handed_over_runs, handed_over_ends)

pub returns-clause-recovered : goal.returns-clause-recovered
returns-clause-recovered c = (recovered_runs, recovered_ends)
