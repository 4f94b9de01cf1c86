use Rattle.consistent_cuts.proofs.Resumption.{recovery_resumes as resumes}
use Rattle.consistent_cuts.proofs.saved.recovery_resumes.Goals as goal

pub returns : goal.returns
returns c = resumes
