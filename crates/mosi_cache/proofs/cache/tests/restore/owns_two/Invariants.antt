use Rattle.std.proofs.Common.{◌≡◌, ◌<◌, ℕ, false}
use Rattle.sn_base.specs.declared.log.Old.TheVariants.{NotOwned}
use Rattle.rollback.specs.Unwound.{content_unwound}
use Rattle.mosi_cache.specs.Restored.{held_of}
use Rattle.mosi_cache.proofs.cache.tests.restore.owns_two.Given as goal

abbrev pub invariant-numbers : goal.invariant-numbers
invariant-numbers l =
    (b : ℕ) → b < l.number → (b ≡ l.first → ⊥) → (b ≡ l.second → ⊥) → content_unwound l.log.entries false l.k (held_of l.cache) b ≡ NotOwned
