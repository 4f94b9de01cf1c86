use Rattle.fabric_coherence.specs.Start.{resumed_beside}
use Rattle.fabric_coherence.proofs.KeptResumed.{resumed-kept, resumed-recorded}
use Rattle.fabric_coherence.proofs.records.resumed_is_recorded.Goals as goal

pub returns : goal.returns
returns c = λ nodes point next owners content dead some few inside. (
  resumed_beside owners,
  resumed-kept nodes point next owners content dead some few inside,
  resumed-recorded nodes point next owners content dead some few inside,
)
