use Rattle.std.proofs.Common.{◌≡◌, ℕ, ◌+◌, ◌≤◌, Bool, true, false, not, ◌&&◌, max, List, [], ◌∷◌, Option, Some, None, refl, sym, ap, ◌∙◌}
use Rattle.std.proofs.Common.{Bor, arith}
use Rattle.std.specs.Prelude.{nat_le, if◌then◌else◌}
use Rattle.std.specs.Option.{option_map, option_copied, is_some}
use Rattle.std.proofs.lemmas.Bool.Decides.{nat_tests}
use Rattle.log_buffer.specs.Log.{LogEntry, is_about, entry_at, logged_to}
use Rattle.sn_base.specs.declared.log.Old.{Old}
use Rattle.home_directory.proofs.tests.playing.notes_last.Goals as goal

unmapped : (o : Option LogEntry) → option_map (λ (e : LogEntry). e.old) o ≡ None → o ≡ None
unmapped None h = refl
unmapped (Some e) h = cc

passed : (t u : Bool) (x : LogEntry) (rest : Option LogEntry) → (if t && u then Some x else rest) ≡ None →
    ((t && u) ≡ false) × (rest ≡ None)
passed true true x rest h = cc
passed true false x rest h = (refl, h)
passed false u x rest h = (refl, h)

bound : (t : Bool) (i k n : ℕ) → (t && nat_le k i) ≡ false → n ≤ k → max (if t then i + 1 else 0) n ≤ k
bound true i k n h l = grind (arith, nat_tests)
bound false i k n h l = omega arith

uncopied : (o : Option (Bor Old)) → is_some o ≡ false → option_copied o ≡ None
uncopied None h = refl
uncopied (Some old) h = cc

-- where no entry is of this interval or a later one, all end before it
logged_before : (es : List LogEntry) (home_side : Bool) (block k : ℕ) → entry_at es home_side block k ≡ None →
    logged_to es home_side block ≤ k
logged_before [] home_side block k h = omega arith
logged_before (e ∷ es) home_side block k h =
    let p = passed (is_about home_side block e) (nat_le k e.interval) _ (entry_at es home_side block k) h in
    bound (is_about home_side block e) e.interval k (logged_to es home_side block) p.0 (logged_before es home_side block k p.1)

pub returns : goal.returns
returns c h =
    let n : is_some c.old_at.result ≡ false = c.is_none.ensures ∙ ap not h in
    logged_before c.args.log.now.entries c.args.home_side c.args.block 1
    (unmapped _ (sym c.old_at.ensures.old ∙ uncopied c.old_at.result n))
