use Rattle.fabric_coherence.specs.HomeEvents.{row_at_home}
use Rattle.fabric_coherence.proofs.CacheOutcomes.{at_cache, cache-allowed, cache-own}
use Rattle.fabric_coherence.proofs.HomeOutcomes.{at_home, home-outcome}
use Rattle.fabric_coherence.proofs.InFlight.{in_flight}
use Rattle.fabric_coherence.proofs.laws.each_row_is_its_event.Goals as goal

pub returns-clause-cache : goal.returns-clause-cache
returns-clause-cache c = λ s t id f taken kept found reached is.
    let flight = in_flight s id f kept.shape found in
    let block = kept.blocks f.message.block flight.block in
    let does = at_cache s t f.message kept.shape flight block reached taken is in (
      cache-own s t f.message kept.shape flight block reached taken does,
      cache-allowed s t f.message kept.shape flight block reached taken does.body,
    )

pub returns-clause-home : goal.returns-clause-home
returns-clause-home c = λ s t id f message kept found reached is served.
    let flight = in_flight s id f kept.shape found in
    let block = kept.blocks f.message.block flight.block in
    home-outcome s t f.message kept.shape flight block reached (row_at_home s f.message message)
    (at_home s t f.message kept.shape flight block reached message is served)
