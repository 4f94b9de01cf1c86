use Rattle.std.proofs.Common.{sym, ap, ◌∙◌, subst}
use Rattle.std.specs.Prelude.{IsNone, nat_le}
use Rattle.sn_model.specs.Caches.{frames_taken}
use Rattle.mosi_cache.specs.Controller.{CacheData, miss_of}
use Rattle.mosi_cache.proofs.Fits.{taken-closed}
use Rattle.mosi_cache.proofs.cache.Cache.has_full_set.Goals as goal

pub returns : goal.returns
returns c =
    let n : IsNone (miss_of c.self.inside.need c.self.inside.transactions.miss) = subst (λ (d : CacheData). IsNone d.cache.miss)
    (sym c.self.view_is) c.requires in
    c.is_full.ensures
    ∙ ap (nat_le c.self.inside.lines.ways) (taken-closed c.self.inside.need c.self.inside.lines c.self.inside.transactions c.args.block n)
    ∙ ap (λ (d : CacheData). nat_le d.ways (frames_taken d.cache d.sets c.args.block)) c.self.view_is
