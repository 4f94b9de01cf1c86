use Rattle.std.proofs.Common.{◌≡◌, ◌%◌, true, sym, subst}
use Rattle.atomicity_point.specs.Txn.{Open}
use Rattle.sn_model.specs.declared.cache.Need.TheVariants.{Write}
use Rattle.sn_model.specs.Caches.{misses_on}
use Rattle.mosi_cache.specs.Controller.{CacheData, miss_of, with_entries}
use Rattle.mosi_cache.proofs.cache.Cache.data_modified.Goals as goal
use Rattle.mosi_cache.proofs.Fits.{fits-missed, room-for-miss, misses-awaiting, misses-answered}
use Rattle.sn_base.specs.declared.log.Old.TheVariants.{NotOwned}
use Rattle.log_buffer.specs.Log.{log_with_note}
use Rattle.sn_model.specs.CacheRows.{data_modified, AwaitsAnswer}
use Rattle.mosi_cache.specs.Rows.{IsRowDone}
use Rattle.mosi_cache.proofs.CompletedOrWaiting.{moved-done, mid-answered, some-awaiting}

pub put-requires-clause-room : goal.put-requires-clause-room
put-requires-clause-room c =
    let q : AwaitsAnswer (miss_of c.self.inside.need c.self.inside.transactions.miss) c.args.block Write = subst
    (λ (d : CacheData). AwaitsAnswer d.cache.miss c.args.block Write) (sym c.self.view_is) c.requires.missed.0 in
    room-for-miss c.self.inside.need c.self.inside.lines c.self.inside.transactions c.args.block
    (misses-awaiting (miss_of c.self.inside.need c.self.inside.transactions.miss) c.args.block Write q) c.self.invariant.2

pub invariant_of-self : goal.invariant_of-self
invariant_of-self c =
    let q : AwaitsAnswer (miss_of c.self.inside.need c.self.inside.transactions.miss) c.args.block Write = subst
    (λ (d : CacheData). AwaitsAnswer d.cache.miss c.args.block Write) (sym c.self.view_is) c.requires.missed.0 in (
      c.self.invariant.0,
      c.self.invariant.1,
      fits-missed c.self.inside.need c.self.inside.lines c.put.new.self c.self.inside.transactions c.answer.new.self c.args.block _ c.put.ensures.lines
          (misses-awaiting (miss_of c.self.inside.need c.self.inside.transactions.miss) c.args.block Write q)
          (λ y m. misses-answered c.self.inside.need c.self.inside.transactions.miss c.args.tag c.args.due y
          (subst (λ (o : Open). misses_on (miss_of c.self.inside.need o.miss) y ≡ true) c.answer.ensures.miss m)) c.self.invariant.2,
    )

pub returns-clause-done : goal.returns-clause-done
returns-clause-done c entries =
    let q : AwaitsAnswer (miss_of c.self.inside.need c.self.inside.transactions.miss) c.args.block Write = subst
    (λ (d : CacheData). AwaitsAnswer d.cache.miss c.args.block Write) (sym c.self.view_is) c.requires.missed.0 in
    let s = some-awaiting (miss_of c.self.inside.need c.self.inside.transactions.miss) c.args.block Write c.args.tag c.args.due q in
    subst (λ (d : CacheData). IsRowDone d c.complete_or_wait.new.self c.complete_or_wait.result
    (data_modified (with_entries d entries) (c.args.block % d.nodes) c.args.block c.args.tag c.args.content c.args.due)) c.self.view_is
    (moved-done _ _ c.complete_or_wait.new.self c.complete_or_wait.result
    (log_with_note entries c.args.tag c.args.block NotOwned) _ _ s.0 c.args.block
    (mid-answered c.self.inside.node c.self.inside.nodes c.self.inside.need c.self.inside.lines c.put.new.self c.self.inside.transactions c.answer.new.self c.args.block _ c.args.tag c.args.due c.put.ensures.lines c.answer.ensures.miss) s.1 (c.complete_or_wait.ensures (log_with_note entries c.args.tag c.args.block NotOwned)))
