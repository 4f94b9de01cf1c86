use Rattle.std.proofs.Common.{◌≡◌, true, sym, subst}
use Rattle.sn_model.specs.Caches.{line_of, is_owned}
use Rattle.mosi_cache.specs.Controller.{CacheData}
use Rattle.mosi_cache.proofs.cache.Cache.forward_read.Goals as goal
use Rattle.mosi_cache.proofs.Fits.{fits-line, owned-present}

pub invariant_of-self : goal.invariant_of-self
invariant_of-self c =
    let p = owned-present _
    (subst (λ (d : CacheData). is_owned (line_of d.cache c.args.block).state ≡ true) (sym c.self.view_is) c.requires) in (
      c.self.invariant.0,
      c.self.invariant.1,
      fits-line c.self.inside.need c.self.inside.lines c.put.new.self c.self.inside.transactions c.args.block _ c.put.ensures.lines p c.self.invariant.2,
    )
