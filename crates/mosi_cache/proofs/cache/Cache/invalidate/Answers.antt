use Rattle.std.proofs.Common.{refl}
use Rattle.mosi_cache.proofs.cache.Cache.invalidate.Goals as goal
use Rattle.mosi_cache.proofs.Fits.{fits-gone}

pub invariant_of-self : goal.invariant_of-self
invariant_of-self c = (
  c.self.invariant.0,
  c.self.invariant.1,
  fits-gone c.self.inside.need c.self.inside.lines c.remove.new.self c.self.inside.transactions c.self.inside.transactions c.args.block c.remove.ensures.lines refl c.self.invariant.2,
)
