use Rattle.std.proofs.Common.{◌≡◌, true, Some, None, sym, ap, ◌∙◌, subst}
use Rattle.atomicity_point.specs.Txn.{Open}
use Rattle.sn_model.specs.Caches.{misses_on}
use Rattle.mosi_cache.specs.Controller.{CacheData, miss_of}
use Rattle.mosi_cache.proofs.cache.Cache.complete_or_wait.Goals as goal
use Rattle.mosi_cache.proofs.Fits.{fits-missed, misses-block, misses-none}
use Rattle.std.specs.Prelude.{IfSome}
use Rattle.std.specs.Option.{option_copied}

pub invariant_of-self : goal.invariant_of-self
invariant_of-self c =
    let e : c.self.inside.transactions.miss ≡ Some c.in-Some.miss.now = sym c.miss.ensures ∙ ap option_copied c.in-Some.is in
    let b : IfSome (miss_of c.self.inside.need c.self.inside.transactions.miss) (λ m. m.block ≡ c.args.block) = subst
    (λ (d : CacheData). IfSome d.cache.miss (λ m. m.block ≡ c.args.block)) (sym c.self.view_is) c.requires in
    let i : misses_on (miss_of c.self.inside.need c.self.inside.transactions.miss) c.args.block
    ≡ true = misses-block c.self.inside.need c.self.inside.transactions.miss c.in-Some.miss.now c.args.block e b in
    let n : c.close_miss.new.self.miss ≡ None = ap (λ (o : Open). o.miss) c.close_miss.ensures in (
      c.self.invariant.0,
      c.self.invariant.1,
      fits-missed c.self.inside.need c.self.inside.lines c.complete.new.self c.self.inside.transactions c.close_miss.new.self c.args.block _ c.complete.ensures i
          (λ y m. misses-none c.self.inside.need c.close_miss.new.self.miss y _ n m) c.self.invariant.2,
    )
