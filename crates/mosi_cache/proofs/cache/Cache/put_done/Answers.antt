use Rattle.std.proofs.Common.{◌≡◌, true, subst}
use Rattle.atomicity_point.specs.Txn.{Open}
use Rattle.sn_model.specs.Caches.{misses_on}
use Rattle.mosi_cache.specs.Controller.{miss_of}
use Rattle.mosi_cache.proofs.cache.Cache.put_done.Goals as goal
use Rattle.mosi_cache.proofs.Fits.{fits-open}

pub invariant_of-self : goal.invariant_of-self
invariant_of-self c = (
  c.self.invariant.0,
  c.self.invariant.1,
  fits-open c.self.inside.need c.self.inside.need c.self.inside.lines c.self.inside.transactions c.close_put.new.self
      (λ y m. subst (λ (o : Open). misses_on (miss_of c.self.inside.need o.miss) y ≡ true) c.close_put.ensures m) c.self.invariant.2,
)
