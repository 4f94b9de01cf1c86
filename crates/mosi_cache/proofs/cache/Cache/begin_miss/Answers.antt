use Rattle.std.proofs.Common.{◌≡◌, ◌<◌, false, sym, ap, subst}
use Rattle.atomicity_point.specs.Txn.{Open}
use Rattle.sn_model.specs.Caches.{line_of, is_present, misses_on}
use Rattle.mosi_cache.specs.Controller.{CacheData, miss_of}
use Rattle.mosi_cache.proofs.cache.Cache.begin_miss.Goals as goal
use Rattle.mosi_cache.proofs.Fits.{fits-new}
use Rattle.sn_model.specs.Caches.{frames_taken}
use Rattle.mosi_cache.proofs.Probes.{miss-fits}

pub invariant_of-self : goal.invariant_of-self
invariant_of-self c = (
  c.self.invariant.0,
  c.self.invariant.1,
  fits-new c.self.inside.need c.args.need c.self.inside.lines c.self.inside.transactions c.open_miss.new.self c.args.block
      (λ b. ap (λ (o : Open). misses_on (miss_of c.args.need o.miss) b) c.open_miss.ensures)
      (subst (λ (d : CacheData). is_present (line_of d.cache c.args.block).state ≡ false →
      frames_taken d.cache d.sets c.args.block < d.ways) (sym c.self.view_is)
      (λ i. miss-fits c.args.self.now c.requires.miss.0 c.args.block c.args.now c.args.need c.requires.miss.1 i))
      c.self.invariant.2,
)
