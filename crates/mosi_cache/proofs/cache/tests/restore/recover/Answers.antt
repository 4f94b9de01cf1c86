use Rattle.std.proofs.Common.{◌≤◌, false, ℕ, subst, ap, ◌∙◌}
use Rattle.rollback.specs.Unwound.{content_unwound}
use Rattle.mosi_cache.specs.Controller.{CacheData}
use Rattle.mosi_cache.specs.Restored.{held_of}
use Rattle.mosi_cache.proofs.Two.{two-fit}
use Rattle.mosi_cache.proofs.cache.tests.restore.recover.Goals as goal

pub unwind-requires-clause-fits : goal.unwind-requires-clause-fits
unwind-requires-clause-fits c =
    two-fit c.args.cache.now c.begin_restore.new.self
    (content_unwound c.args.log.now.entries false 1 (held_of c.begin_restore.new.self)) c.args.first c.args.second c.begin_restore.ensures
    (subst (λ (n : ℕ). 2 ≤ n) (c.ways.ensures ∙ ap (λ (d : CacheData). d.ways) c.cache.view_is) c.if-ways-lt2.false)
    (c.owns_two.ensures.others c.if-not-owns_two.false)
