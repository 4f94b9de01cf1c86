use Rattle.fabric_coherence.proofs.KeptResumed.{resumed-kept}
use Rattle.fabric_coherence.proofs.laws.resumed_is_kept.Goals as goal

pub returns : goal.returns
returns c = λ nodes point next owners content dead some few inside. resumed-kept nodes point next owners content dead some few inside
