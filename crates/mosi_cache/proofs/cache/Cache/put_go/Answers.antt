use Rattle.std.proofs.Common.{ap}
use Rattle.atomicity_point.specs.Txn.{Open}
use Rattle.mosi_cache.proofs.cache.Cache.put_go.Goals as goal
use Rattle.mosi_cache.proofs.Fits.{fits-gone}

pub invariant_of-self : goal.invariant_of-self
invariant_of-self c = (
  c.self.invariant.0,
  c.self.invariant.1,
  fits-gone c.self.inside.need c.self.inside.lines c.remove.new.self c.self.inside.transactions c.close_put.new.self c.args.block c.remove.ensures.lines
      (ap (λ (o : Open). o.miss) c.close_put.ensures) c.self.invariant.2,
)
