use Rattle.std.proofs.Common.{◌≡◌, ◌%◌, true, sym, subst}
use Rattle.atomicity_point.specs.Txn.{Open}
use Rattle.sn_model.specs.Caches.{misses_on}
use Rattle.mosi_cache.specs.Controller.{CacheData, miss_of, with_entries}
use Rattle.mosi_cache.proofs.cache.Cache.acknowledge.Goals as goal
use Rattle.mosi_cache.proofs.Fits.{fits-open, misses-counted}
use Rattle.sn_model.specs.CacheRows.{acknowledge, MayCount}
use Rattle.mosi_cache.specs.Rows.{IsRowDone}
use Rattle.mosi_cache.proofs.CompletedOrWaiting.{moved-done, mid-counted, some-counting}

pub invariant_of-self : goal.invariant_of-self
invariant_of-self c = (
  c.self.invariant.0,
  c.self.invariant.1,
  fits-open c.self.inside.need c.self.inside.need c.self.inside.lines c.self.inside.transactions c.ack.new.self
      (λ y m. misses-counted c.self.inside.need c.self.inside.transactions.miss y
      (subst (λ (o : Open). misses_on (miss_of c.self.inside.need o.miss) y ≡ true) c.ack.ensures.miss m)) c.self.invariant.2,
)

pub returns : goal.returns
returns c entries =
    let q : MayCount (miss_of c.self.inside.need c.self.inside.transactions.miss) c.args.block = subst
    (λ (d : CacheData). MayCount d.cache.miss c.args.block) (sym c.self.view_is) c.requires in
    let s = some-counting (miss_of c.self.inside.need c.self.inside.transactions.miss) c.args.block q in
    subst (λ (d : CacheData). IsRowDone d c.complete_or_wait.new.self c.complete_or_wait.result
    (acknowledge (with_entries d entries) (c.args.block % d.nodes))) c.self.view_is
    (moved-done _ _ c.complete_or_wait.new.self c.complete_or_wait.result entries c.self.inside.lines.lines _ s.0 c.args.block
    (mid-counted c.self.inside.node c.self.inside.nodes c.self.inside.need c.self.inside.lines c.self.inside.transactions c.ack.new.self c.ack.ensures.miss) s.1 (c.complete_or_wait.ensures entries))
