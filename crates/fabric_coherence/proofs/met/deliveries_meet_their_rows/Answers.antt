use Rattle.fabric_coherence.proofs.InFlight.{in_flight}
use Rattle.fabric_coherence.proofs.RowsMet.{meets_cache, meets_home}
use Rattle.fabric_coherence.proofs.met.deliveries_meet_their_rows.Goals as goal

pub returns-clause-cache : goal.returns-clause-cache
returns-clause-cache c = λ s id f k e is. meets_cache s k.0 f.message (in_flight s id f k.1.shape e) k.1 is

pub returns-clause-home : goal.returns-clause-home
returns-clause-home c = λ s id f k e is. meets_home s k.0 f.message (in_flight s id f k.1.shape e) k.1 is
