use Rattle.std.proofs.Common.{◌≡◌, ◌%◌, true, sym, subst}
use Rattle.atomicity_point.specs.Txn.{Open}
use Rattle.sn_model.specs.declared.cache.Need.TheVariants.{Read}
use Rattle.sn_model.specs.Caches.{misses_on}
use Rattle.mosi_cache.specs.Controller.{CacheData, miss_of, with_entries}
use Rattle.mosi_cache.proofs.cache.Cache.data_shared.Goals as goal
use Rattle.mosi_cache.proofs.Fits.{fits-missed, room-for-miss, misses-awaiting, misses-answered}
use Rattle.sn_model.specs.CacheRows.{data_shared, AwaitsAnswer}
use Rattle.mosi_cache.specs.Rows.{IsRowDone}
use Rattle.mosi_cache.proofs.CompletedOrWaiting.{moved-done, mid-answered, some-awaiting}

pub put-requires-clause-room : goal.put-requires-clause-room
put-requires-clause-room c =
    let q : AwaitsAnswer (miss_of c.self.inside.need c.self.inside.transactions.miss) c.args.block Read = subst
    (λ (d : CacheData). AwaitsAnswer d.cache.miss c.args.block Read) (sym c.self.view_is) c.requires.0 in
    room-for-miss c.self.inside.need c.self.inside.lines c.self.inside.transactions c.args.block
    (misses-awaiting (miss_of c.self.inside.need c.self.inside.transactions.miss) c.args.block Read q) c.self.invariant.2

pub invariant_of-self : goal.invariant_of-self
invariant_of-self c =
    let q : AwaitsAnswer (miss_of c.self.inside.need c.self.inside.transactions.miss) c.args.block Read = subst
    (λ (d : CacheData). AwaitsAnswer d.cache.miss c.args.block Read) (sym c.self.view_is) c.requires.0 in (
      c.self.invariant.0,
      c.self.invariant.1,
      fits-missed c.self.inside.need c.self.inside.lines c.put.new.self c.self.inside.transactions c.answer.new.self c.args.block _ c.put.ensures.lines
          (misses-awaiting (miss_of c.self.inside.need c.self.inside.transactions.miss) c.args.block Read q)
          (λ y m. misses-answered c.self.inside.need c.self.inside.transactions.miss c.args.tag 0 y
          (subst (λ (o : Open). misses_on (miss_of c.self.inside.need o.miss) y ≡ true) c.answer.ensures.miss m)) c.self.invariant.2,
    )

pub returns : goal.returns
returns c entries =
    let q : AwaitsAnswer (miss_of c.self.inside.need c.self.inside.transactions.miss) c.args.block Read = subst
    (λ (d : CacheData). AwaitsAnswer d.cache.miss c.args.block Read) (sym c.self.view_is) c.requires.0 in
    let s = some-awaiting (miss_of c.self.inside.need c.self.inside.transactions.miss) c.args.block Read c.args.tag 0 q in
    subst (λ (d : CacheData). IsRowDone d c.complete_or_wait.new.self c.complete_or_wait.result
    (data_shared (with_entries d entries) (c.args.block % d.nodes) c.args.block c.args.tag c.args.content)) c.self.view_is
    (moved-done _ _ c.complete_or_wait.new.self c.complete_or_wait.result (entries) _ _ s.0 c.args.block
    (mid-answered c.self.inside.node c.self.inside.nodes c.self.inside.need c.self.inside.lines c.put.new.self c.self.inside.transactions c.answer.new.self c.args.block _ c.args.tag 0 c.put.ensures.lines c.answer.ensures.miss) s.1 (c.complete_or_wait.ensures (entries)))
