-- How what a log says of a checkpoint changes as the log grows and is freed. The machine's coherence rests on these.
use Rattle.std.proofs.Common.{◌≡◌, ℕ, ◌+◌, ◌≤◌, Bool, true, false, not, ◌&&◌, ◌||◌, max, cond, List, [], ◌∷◌, ◌++◌, Option, Some, None}
use Rattle.std.proofs.Common.{refl, sym, ap, ◌∙◌, arith}
use Rattle.std.specs.Prelude.{nat_le, nat_eq, if◌then◌else◌}
use Rattle.std.specs.Option.{option_map}
use Rattle.std.proofs.lemmas.Bool.Decides.{nat_tests}
use Rattle.log_buffer.specs.Log.{LogEntry, Old, is_home_side, is_of_side, is_about, earlier, entry_at, old_at, has_entry, log_with_note}
use Rattle.log_buffer.specs.Log.{entries_from, logged_to}

-- the first of two options that has a value
abbrev pub or_else : {A : Type 0} → Option A → Option A → Option A
or_else None o = o
or_else (Some a) o = Some a

-- an entry alone
abbrev pub entry_alone : LogEntry → Bool → ℕ → ℕ → Option LogEntry
entry_alone f s b k = if is_about s b f && nat_le k f.interval then Some f else None

above_step : (c : Bool) (e : LogEntry) (o : Option LogEntry) (k m : ℕ) → max (if c then e.interval + 1 else 0) m ≤ k → (m ≤ k → o ≡ None) →
    (if c && nat_le k e.interval then Some (earlier e o) else o) ≡ None
above_step c e o k m h r = grind (arith, nat_tests)

-- at and above the end of its newest interval the log says nothing
pub entry_at-above : (es : List LogEntry) (s : Bool) (b k : ℕ) → logged_to es s b ≤ k → entry_at es s b k ≡ None
entry_at-above [] s b k h = refl
entry_at-above (e ∷ es) s b k h = above_step (is_about s b e) e (entry_at es s b k) k (logged_to es s b) h (entry_at-above es s b k)

pub old_at-above : (es : List LogEntry) (s : Bool) (b k : ℕ) → logged_to es s b ≤ k → old_at es s b k ≡ None
old_at-above es s b k h = ap (option_map (λ (e : LogEntry). e.old)) (entry_at-above es s b k h)

earlier_push : (e f : LogEntry) (o p : Option LogEntry) (d : Bool) → (d ≡ true → e.interval ≤ f.interval) →
    p ≡ or_else o (if d then Some f else None) →
    Some (earlier e p) ≡ or_else (Some (earlier e o)) (if d then Some f else None)
earlier_push e f None p true h i = grind (arith, nat_tests)
earlier_push e f None p false h i = grind (arith, nat_tests)
earlier_push e f (Some g) p d h i = ap (λ (q : Option LogEntry). Some (earlier e q)) i

push_step : (c d : Bool) (e f : LogEntry) (o p : Option LogEntry) → (c ≡ true → d ≡ true → e.interval ≤ f.interval) →
    p ≡ or_else o (if d then Some f else None) →
    (if c then Some (earlier e p) else p) ≡ or_else (if c then Some (earlier e o) else o) (if d then Some f else None)
push_step true d e f o p h i = earlier_push e f o p d (h refl) i
push_step false d e f o p h i = i

reach_step : (c : Bool) (e f : LogEntry) (m k : ℕ) (d : Bool) → max (if c then e.interval + 1 else 0) m ≤ f.interval + 1 →
    (c && nat_le k e.interval) ≡ true → d ≡ true → e.interval ≤ f.interval
reach_step c e f m k d h i j = grind (arith, nat_tests)

-- an entry at the end counts where no other fits
pub entry_at-push : (es : List LogEntry) (f : LogEntry) (s : Bool) (b k : ℕ) → logged_to es s b ≤ f.interval + 1 →
    entry_at (es ++ f ∷ []) s b k ≡ or_else (entry_at es s b k) (entry_alone f s b k)
entry_at-push [] f s b k h = refl
entry_at-push (e ∷ es) f s b k h =
    push_step (is_about s b e && nat_le k e.interval) (is_about s b f && nat_le k f.interval) e f (entry_at es s b k)
    (entry_at (es ++ f ∷ []) s b k)
    (λ i j. reach_step (is_about s b e) e f (logged_to es s b) k _ h i j)
    (entry_at-push es f s b k (omega arith))

map_or_else : (o p : Option LogEntry) →
    option_map (λ (e : LogEntry). e.old) (or_else o p)
    ≡ or_else (option_map (λ (e : LogEntry). e.old) o) (option_map (λ (e : LogEntry). e.old) p)
map_or_else None p = refl
map_or_else (Some e) p = refl

pub old_at-push : (es : List LogEntry) (f : LogEntry) (s : Bool) (b k : ℕ) → logged_to es s b ≤ f.interval + 1 →
    old_at (es ++ f ∷ []) s b k ≡ or_else (old_at es s b k) (option_map (λ (e : LogEntry). e.old) (entry_alone f s b k))
old_at-push es f s b k h =
    ap (option_map (λ (e : LogEntry). e.old)) (entry_at-push es f s b k h) ∙ map_or_else (entry_at es s b k) (entry_alone f s b k)

-- an entry of another side or block counts nowhere
pub entry_at-push_other : (es : List LogEntry) (f : LogEntry) (s : Bool) (b k : ℕ) → is_about s b f ≡ false →
    entry_at (es ++ f ∷ []) s b k ≡ entry_at es s b k
entry_at-push_other [] f s b k h = grind arith
entry_at-push_other (e ∷ es) f s b k h =
    ap (λ (o : Option LogEntry). if is_about s b e && nat_le k e.interval then Some (earlier e o) else o) (entry_at-push_other es f s b k h)

-- where an interval has an entry, each checkpoint up to it has one
has_step : (c : Bool) (e : LogEntry) (rest : Bool) (o : Option Old) (p : Option LogEntry) (i k : ℕ) →
    ((c && nat_eq e.interval i) || rest) ≡ true → k ≤ i →
    (rest ≡ true → or_else (option_map (λ (x : LogEntry). x.old) p) o ≡ option_map (λ (x : LogEntry). x.old) p) →
    or_else (option_map (λ (x : LogEntry). x.old) (if c && nat_le k e.interval then Some (earlier e p) else p)) o
    ≡ option_map (λ (x : LogEntry). x.old) (if c && nat_le k e.interval then Some (earlier e p) else p)
has_step true e rest o p i k h l r =
    elim (nat_le k e.interval) as
    (λ t. nat_le k e.interval ≡ t →
    or_else (option_map (λ (x : LogEntry). x.old) (if t then Some (earlier e p) else p)) o
    ≡ option_map (λ (x : LogEntry). x.old) (if t then Some (earlier e p) else p)) [
      | true ↦ λ _. refl
      | false ↦ λ q. r (grind (arith, nat_tests))
    ] refl
has_step false e rest o p i k h l r = r h

pub old_at-has : (es : List LogEntry) (i k : ℕ) (s : Bool) (b : ℕ) (o : Option Old) → has_entry es i s b ≡ true → k ≤ i →
    or_else (old_at es s b k) o ≡ old_at es s b k
old_at-has [] i k s b o h l = grind arith
old_at-has (e ∷ es) i k s b o h l =
    has_step (is_about s b e) e (has_entry es i s b) o (entry_at es s b k) i k h l (λ r. old_at-has es i k s b o r l)

about_new : (old : Old) (i b : ℕ) → is_about (is_home_side old) b (record { interval = i; block = b; old = old }) ≡ true
about_new old i b =
    elim (is_home_side old) as
    (λ t. ((if t then t else not t) && nat_eq b b) ≡ true) [ true ↦ grind (arith, nat_tests) | false ↦ grind (arith, nat_tests) ]

noted_step : (h : Bool) (es : List LogEntry) (f : LogEntry) (b k : ℕ) → has_entry es f.interval (is_home_side f.old) f.block ≡ h →
    logged_to es (is_home_side f.old) f.block ≤ f.interval + 1 →
    is_about (is_home_side f.old) f.block f ≡ true → k ≤ f.interval →
    old_at (if h then es else es ++ f ∷ []) (is_home_side f.old) f.block k ≡ or_else (old_at es (is_home_side f.old) f.block k) (Some f.old)
noted_step true es f b k h m a l = sym (old_at-has es f.interval k (is_home_side f.old) f.block (Some f.old) h l)
noted_step false es f b k h m a l =
    let q : nat_le k f.interval ≡ true = grind (arith, nat_tests) in
    let p : entry_alone f (is_home_side f.old) f.block k ≡ Some f = rw (a, q) in
    old_at-push es f (is_home_side f.old) f.block k m
    ∙ ap (λ (o : Option LogEntry). or_else (old_at es (is_home_side f.old) f.block k) (option_map (λ (e : LogEntry). e.old) o)) p

-- after a change is noted, a checkpoint up to its interval has what was there, or else the old content
pub old_at-noted : (es : List LogEntry) (i b : ℕ) (old : Old) (k : ℕ) → logged_to es (is_home_side old) b ≤ i + 1 → k ≤ i →
    old_at (log_with_note es i b old) (is_home_side old) b k ≡ or_else (old_at es (is_home_side old) b k) (Some old)
old_at-noted es i b old k m l =
    noted_step (has_entry es i (is_home_side old) b) es (record { interval = i; block = b; old = old }) b k refl m (about_new old i b) l

-- and other sides and blocks have what they had
pub old_at-noted_other : (es : List LogEntry) (i b : ℕ) (old : Old) (s : Bool) (c k : ℕ) → (is_of_side s old && nat_eq b c) ≡ false →
    old_at (log_with_note es i b old) s c k ≡ old_at es s c k
old_at-noted_other es i b old s c k h =
    elim (has_entry es i (is_home_side old) b) as
    (λ t. old_at (if t then es else es ++ record { interval = i; block = b; old = old } ∷ []) s c k ≡ old_at es s c k) [
      | true ↦ refl
      | false ↦ ap (option_map (λ (e : LogEntry). e.old))
          (entry_at-push_other es (record { interval = i; block = b; old = old }) s c k h)
    ]

to_step : (c d : Bool) (e f : LogEntry) (m : ℕ) →
    max (if c then e.interval + 1 else 0) (max m (if d then f.interval + 1 else 0))
    ≡ max (max (if c then e.interval + 1 else 0) m) (if d then f.interval + 1 else 0)
to_step c d e f m = grind arith

pub logged_to-push : (es : List LogEntry) (f : LogEntry) (s : Bool) (b : ℕ) →
    logged_to (es ++ f ∷ []) s b ≡ max (logged_to es s b) (if is_about s b f then f.interval + 1 else 0)
logged_to-push [] f s b = grind arith
logged_to-push (e ∷ es) f s b =
    ap (λ n. max (if is_about s b e then e.interval + 1 else 0) n) (logged_to-push es f s b)
    ∙ to_step (is_about s b e) (is_about s b f) e f (logged_to es s b)

has_to_step : (c : Bool) (e : LogEntry) (rest : Bool) (i m : ℕ) → ((c && nat_eq e.interval i) || rest) ≡ true → (rest ≡ true → i + 1 ≤ m) →
    i + 1 ≤ max (if c then e.interval + 1 else 0) m
has_to_step c e rest i m h r = grind (arith, nat_tests)

pub logged_to-has : (es : List LogEntry) (i : ℕ) (s : Bool) (b : ℕ) → has_entry es i s b ≡ true → i + 1 ≤ logged_to es s b
logged_to-has [] i s b h = grind arith
logged_to-has (e ∷ es) i s b h = has_to_step (is_about s b e) e (has_entry es i s b) i (logged_to es s b) h (λ r. logged_to-has es i s b r)

noted_to_step : (h : Bool) (es : List LogEntry) (f : LogEntry) → has_entry es f.interval (is_home_side f.old) f.block ≡ h →
    logged_to es (is_home_side f.old) f.block ≤ f.interval + 1 →
    is_about (is_home_side f.old) f.block f ≡ true →
    logged_to (if h then es else es ++ f ∷ []) (is_home_side f.old) f.block ≡ f.interval + 1
noted_to_step true es f h m a = let q = logged_to-has es f.interval (is_home_side f.old) f.block h in omega arith
noted_to_step false es f h m a = logged_to-push es f (is_home_side f.old) f.block ∙ rw a (omega arith)

-- a change that is noted is the newest of its side and block
pub logged_to-noted : (es : List LogEntry) (i b : ℕ) (old : Old) → logged_to es (is_home_side old) b ≤ i + 1 →
    logged_to (log_with_note es i b old) (is_home_side old) b ≡ i + 1
logged_to-noted es i b old m =
    noted_to_step (has_entry es i (is_home_side old) b) es (record { interval = i; block = b; old = old }) refl m (about_new old i b)

pub logged_to-noted_other : (es : List LogEntry) (i b : ℕ) (old : Old) (s : Bool) (c : ℕ) → (is_of_side s old && nat_eq b c) ≡ false →
    logged_to (log_with_note es i b old) s c ≡ logged_to es s c
logged_to-noted_other es i b old s c h =
    elim (has_entry es i (is_home_side old) b) as
    (λ t. logged_to (if t then es else es ++ record { interval = i; block = b; old = old } ∷ []) s c ≡ logged_to es s c)
    [ true ↦ refl | false ↦ logged_to-push es (record { interval = i; block = b; old = old }) s c ∙ rw h (omega arith) ]

from_step : (c : Bool) (e : LogEntry) (fs : List LogEntry) (o : Option LogEntry) (s : Bool) (b j k : ℕ) → j ≤ k → entry_at fs s b k ≡ o →
    entry_at (cond (nat_le j e.interval) (e ∷ fs) fs) s b k ≡ (if is_about s b e && nat_le k e.interval then Some (earlier e o) else o)
from_step c e fs o s b j k l h = grind (arith, nat_tests)

-- freeing the entries below a checkpoint changes nothing at or above it
pub entry_at-from : (es : List LogEntry) (j : ℕ) (s : Bool) (b k : ℕ) → j ≤ k → entry_at (entries_from j es) s b k ≡ entry_at es s b k
entry_at-from [] j s b k l = refl
entry_at-from (e ∷ es) j s b k l = from_step true e (entries_from j es) (entry_at es s b k) s b j k l (entry_at-from es j s b k l)

pub old_at-from : (es : List LogEntry) (j : ℕ) (s : Bool) (b k : ℕ) → j ≤ k → old_at (entries_from j es) s b k ≡ old_at es s b k
old_at-from es j s b k l = ap (option_map (λ (e : LogEntry). e.old)) (entry_at-from es j s b k l)

from_to_step : (c t : Bool) (e : LogEntry) (es fs : List LogEntry) (s : Bool) (b : ℕ) → logged_to fs s b ≤ logged_to es s b →
    logged_to (cond t (e ∷ fs) fs) s b ≤ logged_to (e ∷ es) s b
from_to_step c true e es fs s b h = omega arith
from_to_step c false e es fs s b h = omega arith

pub logged_to-from : (es : List LogEntry) (j : ℕ) (s : Bool) (b : ℕ) → logged_to (entries_from j es) s b ≤ logged_to es s b
logged_to-from [] j s b = omega arith
logged_to-from (e ∷ es) j s b = from_to_step true (nat_le j e.interval) e es (entries_from j es) s b (logged_to-from es j s b)
