use Rattle.std.proofs.Common.{◌≡◌, ◌%◌, true, sym, subst}
use Rattle.atomicity_point.specs.Txn.{Open}
use Rattle.sn_model.specs.declared.cache.Need.TheVariants.{Write}
use Rattle.sn_model.specs.Caches.{misses_on}
use Rattle.mosi_cache.specs.Controller.{CacheData, miss_of, with_entries}
use Rattle.mosi_cache.proofs.cache.Cache.upgrade_granted.Goals as goal
use Rattle.mosi_cache.proofs.Fits.{fits-open, misses-answered}
use Rattle.sn_model.specs.CacheRows.{upgrade_granted, AwaitsAnswer}
use Rattle.mosi_cache.specs.Rows.{IsRowDone}
use Rattle.mosi_cache.proofs.CompletedOrWaiting.{moved-done, mid-upgraded, some-awaiting}

pub invariant_of-self : goal.invariant_of-self
invariant_of-self c = (
  c.self.invariant.0,
  c.self.invariant.1,
  fits-open c.self.inside.need c.self.inside.need c.self.inside.lines c.self.inside.transactions c.answer.new.self
      (λ y m. misses-answered c.self.inside.need c.self.inside.transactions.miss c.args.tag c.args.due y
      (subst (λ (o : Open). misses_on (miss_of c.self.inside.need o.miss) y ≡ true) c.answer.ensures.miss m)) c.self.invariant.2,
)

pub returns : goal.returns
returns c entries =
    let q : AwaitsAnswer (miss_of c.self.inside.need c.self.inside.transactions.miss) c.args.block Write = subst
    (λ (d : CacheData). AwaitsAnswer d.cache.miss c.args.block Write) (sym c.self.view_is) c.requires.0 in
    let s = some-awaiting (miss_of c.self.inside.need c.self.inside.transactions.miss) c.args.block Write c.args.tag c.args.due q in
    subst (λ (d : CacheData). IsRowDone d c.complete_or_wait.new.self c.complete_or_wait.result
    (upgrade_granted (with_entries d entries) (c.args.block % d.nodes) c.args.tag c.args.due)) c.self.view_is
    (moved-done _ _ c.complete_or_wait.new.self c.complete_or_wait.result entries c.self.inside.lines.lines _ s.0 c.args.block
    (mid-upgraded c.self.inside.node c.self.inside.nodes c.self.inside.need c.self.inside.lines c.self.inside.transactions c.answer.new.self c.args.tag c.args.due c.answer.ensures.miss) s.1 (c.complete_or_wait.ensures entries))
