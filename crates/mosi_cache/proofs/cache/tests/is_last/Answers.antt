use Rattle.std.proofs.Common.{◌≡◌, ℕ, ◌+◌, ◌≤◌, false, None, sym, ◌∙◌, subst}
use Rattle.log_buffer.specs.Log.{old_at, logged_to}
use Rattle.mosi_cache.proofs.Logs.{logged_below, nothing_copied}
use Rattle.mosi_cache.proofs.cache.tests.is_last.Goals as goal

pub returns-in-Some : goal.returns-in-Some
returns-in-Some c t =
    let e : c.in-Some.next ≡ c.args.interval + 1 = c.in-Some.ensures.1 in
    let n : old_at c.args.log.now.entries false c.args.block c.in-Some.next ≡ None = sym c.old_at.ensures.old
    ∙ nothing_copied c.old_at.result c.is_none.result c.is_none.ensures t in
    subst (λ (k : ℕ). logged_to c.args.log.now.entries false c.args.block ≤ k) e
    (logged_below c.args.log.now.entries false c.args.block c.in-Some.next n)
