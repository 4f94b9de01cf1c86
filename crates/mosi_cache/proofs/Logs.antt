-- Where a log has nothing to say of a checkpoint, its entries are of earlier intervals.
use Rattle.std.proofs.Common.{◌≡◌, ℕ, ◌+◌, ◌≤◌, Bool, true, ◌&&◌, max, List, [], ◌∷◌, Option, Some, None, not, refl, Bor, arith}
use Rattle.std.specs.Prelude.{nat_le, is_some, option_copied, if◌then◌else◌}
use Rattle.std.specs.Option.{option_map}
use Rattle.std.proofs.lemmas.Bool.Decides.{nat_tests}
use Rattle.log_buffer.specs.Log.{LogEntry, Old, is_about, earlier, entry_at, old_at, logged_to}

no_old : (o : Option LogEntry) → option_map (λ (e : LogEntry). e.old) o ≡ None → o ≡ None
no_old None h = refl
no_old (Some e) h = cc

below_step : (c : Bool) (e f : LogEntry) (o : Option LogEntry) (k m : ℕ) → (if c && nat_le k e.interval then Some f else o) ≡ None →
    (o ≡ None → m ≤ k) → max (if c then e.interval + 1 else 0) m ≤ k
below_step c e f o k m h r = grind (arith, nat_tests)

below_entries : (es : List LogEntry) (s : Bool) (b k : ℕ) → entry_at es s b k ≡ None → logged_to es s b ≤ k
below_entries [] s b k h = omega arith
below_entries (e ∷ es) s b k h =
    below_step (is_about s b e) e (earlier e (entry_at es s b k)) (entry_at es s b k) k (logged_to es s b) h (below_entries es s b k)

pub logged_below : (es : List LogEntry) (s : Bool) (b k : ℕ) → old_at es s b k ≡ None → logged_to es s b ≤ k
logged_below es s b k h = below_entries es s b k (no_old (entry_at es s b k) h)

pub nothing_copied : (o : Option (Bor Old)) (r : Bool) → is_some o ≡ not r → r ≡ true → option_copied o ≡ None
nothing_copied None r h t = refl
nothing_copied (Some x) r h t = cc
