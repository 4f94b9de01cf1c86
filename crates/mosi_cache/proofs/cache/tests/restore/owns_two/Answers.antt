use Rattle.std.proofs.Common.{◌≡◌, ◌<◌, ◌≤◌, ℕ, false, subst, arith, ⊎_elim}
use Rattle.std.proofs.lemmas.Bool.{cases_lt}
use Rattle.sn_base.specs.declared.log.Old.TheVariants.{NotOwned}
use Rattle.rollback.specs.Unwound.{content_unwound}
use Rattle.mosi_cache.specs.Restored.{held_of}
use Rattle.mosi_cache.proofs.cache.tests.restore.owns_two.Goals as goal

pub returns-clause-others : goal.returns-clause-others
returns-clause-others c = λ r b l e f.
    ⊎_elim
    (λ (i : b < 65535). c.numbers.invariant b (omega arith) e f)
    (λ (i : 65535 ≤ b).
    let q : c.new-2.result ≡ b = omega (arith, c.new-2.ensures) in
    subst (λ (n : ℕ). content_unwound c.args.log.now.entries false c.args.k (held_of c.args.cache.now) n ≡ NotOwned) q
    (c.is_unowned-2.ensures.unowned r))
    (cases_lt b 65535)
