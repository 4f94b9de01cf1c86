use Rattle.std.proofs.Common.{false, sym, subst}
use Rattle.sn_base.specs.declared.log.Old.TheVariants.{Owned}
use Rattle.rollback.specs.Unwound.{contents_with_old}
use Rattle.mosi_cache.specs.Controller.{CacheData, cache_of}
use Rattle.mosi_cache.specs.Frames.{LinesData}
use Rattle.mosi_cache.specs.Restored.{held_of, HeldFits}
use Rattle.mosi_cache.proofs.Held.{room-held, fits-put}
use Rattle.mosi_cache.proofs.CompletedOrWaiting.{data_by}
use Rattle.sn_model.specs.Caches.{FitsSets}
use Rattle.mosi_cache.proofs.cache.Cache.hold.Goals as goal

-- the controller by its parts
abbrev before : goal.After-put-arg-1 → CacheData
before c = data_by c.self.inside.node c.self.inside.nodes c.self.inside.need c.self.inside.lines c.self.inside.transactions

fits : (c : goal.After-put-arg-1) → HeldFits (before c) (contents_with_old false (held_of (before c)) c.args.block (Owned c.args.content))
fits c =
    subst (λ (d : CacheData). HeldFits d (contents_with_old false (held_of d) c.args.block (Owned c.args.content))) (sym c.self.view_is) c.requires

pub put-requires-clause-room : goal.put-requires-clause-room
put-requires-clause-room c = room-held (before c) c.args.block c.args.content (fits c)

after : (c : goal.After-put) →
    FitsSets (cache_of c.self.inside.need c.put.new.self c.self.inside.transactions) c.put.new.self.sets c.put.new.self.ways
after c =
    let b = data_by c.self.inside.node c.self.inside.nodes c.self.inside.need c.self.inside.lines c.self.inside.transactions in
    subst (λ (a : LinesData). FitsSets (cache_of c.self.inside.need a c.self.inside.transactions) a.sets a.ways) (sym c.put.ensures.lines)
    (fits-put b c.args.block c.args.content
    (subst (λ (d : CacheData). HeldFits d (contents_with_old false (held_of d) c.args.block (Owned c.args.content)))
    (sym c.self.view_is) c.requires))

pub invariant_of-self : goal.invariant_of-self
invariant_of-self c = (c.self.invariant.0, c.self.invariant.1, after c)

pub returns-clause-fits : goal.returns-clause-fits
returns-clause-fits c = after c
