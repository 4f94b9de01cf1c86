-- Which entry a growing log gives for a checkpoint.
use Rattle.std.proofs.Common.{◌≡◌, ℕ, suc, ◌+◌, ◌<◌, ◌≤◌, Bool, true, false, not, ◌&&◌, ◌||◌, max, cond, List, [], ◌∷◌, ◌++◌, Option, Some}
use Rattle.std.proofs.Common.{None, IfSome, length, take, drop, min, zero, refl, arith, length-append}
use Rattle.std.specs.Prelude.{nat_le, nat_eq, if◌then◌else◌}
use Rattle.std.specs.List.{All}
use Rattle.std.proofs.lemmas.List.{length-take, get_or-take}
use Rattle.std.proofs.lemmas.List.Elements.{All-head, All-tail, All-nil, All-cons}
use Rattle.std.proofs.lemmas.List.Kept.{AllPairs-filter}
use Rattle.std.proofs.lemmas.List.Quantifiers.{all_pairs_push}
use Rattle.std.proofs.lemmas.Bool.Decides.{nat_tests}
use Rattle.log_buffer.specs.Log.{LogEntry, Old, is_home_side, is_about, earlier, entry_at, has_entry, logged_to, entries_from, IsGrowing}
use Rattle.log_buffer.specs.Log.{IsLog}

-- an entry stands before each later one of its side and block
abbrev pub StandsBefore : LogEntry → LogEntry → Type 0
StandsBefore e f = is_about (is_home_side e.old) e.block f ≡ true → e.interval < f.interval

-- two entries of one side and block are about each other
pub about_same : (s : Bool) (b : ℕ) (e f : LogEntry) → is_about s b e ≡ true → is_about s b f ≡ true →
    is_about (is_home_side e.old) e.block f ≡ true
about_same true b e f h k = grind (arith, nat_tests)
about_same false b e f h k = grind (arith, nat_tests)

pub IsGrowing-head : (e : LogEntry) (es : List LogEntry) → IsGrowing (e ∷ es) → All (StandsBefore e) es
IsGrowing-head e es h j d l = h 0 (suc j) d (omega arith) (omega arith)

pub IsGrowing-tail : (e : LogEntry) (es : List LogEntry) → IsGrowing (e ∷ es) → IsGrowing es
IsGrowing-tail e es h i j d l m = h (suc i) (suc j) d (omega arith) (omega arith)

step_kept : (P : LogEntry → Type 0) (e : LogEntry) (o : Option LogEntry) → P e → IfSome o P → P (earlier e o)
step_kept P e None p h = p
step_kept P e (Some f) p h = elim (nat_le e.interval f.interval) as (λ t. P (if t then e else f)) [ true ↦ p | false ↦ h ]

step_all : (P : LogEntry → Type 0) (c : Bool) (e : LogEntry) (o : Option LogEntry) → (c ≡ true → P e) → IfSome o P →
    IfSome (if c then Some (earlier e o) else o) P
step_all P true e o p h = step_kept P e o (p refl) h
step_all P false e o p h = h

-- the entry is one of the log, of the side and block, and not below the checkpoint
pub entry_at-holds : (P : LogEntry → Type 0) (es : List LogEntry) (s : Bool) (b k : ℕ) → All P es →
    IfSome (entry_at es s b k) (λ f. P f × (is_about s b f ≡ true) × (k ≤ f.interval))
entry_at-holds P [] s b k h = tt
entry_at-holds P (e ∷ es) s b k h =
    step_all (λ f. P f × (is_about s b f ≡ true) × (k ≤ f.interval)) (is_about s b e && nat_le k e.interval) e (entry_at es s b k)
    (λ c. (All-head P e es h, grind (arith, nat_tests), grind (arith, nat_tests)))
    (entry_at-holds P es s b k (All-tail P e es h))

earlier_first : (e : LogEntry) (o : Option LogEntry) → IfSome o (λ f. e.interval ≤ f.interval) → earlier e o ≡ e
earlier_first e None h = refl
earlier_first e (Some f) h = grind (arith, nat_tests)

if_some_weaker : (P Q : LogEntry → Type 0) → ((f : LogEntry) → P f → Q f) → (o : Option LogEntry) → IfSome o P → IfSome o Q
if_some_weaker P Q w None h = tt
if_some_weaker P Q w (Some f) h = w f h

pick : (c d : Bool) (e f : LogEntry) (o : Option LogEntry) → c ≡ true → d ≡ true → f ≡ e → (if c && d then Some f else o) ≡ Some e
pick c d e f o h i j = grind arith

-- in a growing log the first entry that fits is the one
pub entry_at-first : (e : LogEntry) (es : List LogEntry) (s : Bool) (b k : ℕ) → IsGrowing (e ∷ es) → is_about s b e ≡ true →
    nat_le k e.interval ≡ true →
    entry_at (e ∷ es) s b k ≡ Some e
entry_at-first e es s b k g h l =
    pick (is_about s b e) (nat_le k e.interval) e (earlier e (entry_at es s b k)) (entry_at es s b k) h l
    (earlier_first e (entry_at es s b k)
    (if_some_weaker _ _ (λ f t. let u : e.interval < f.interval = t.0 (about_same s b e f h t.1) in omega arith) (entry_at es s b k)
    (entry_at-holds (StandsBefore e) es s b k (IsGrowing-head e es g))))

pub IsGrowing-drop : (n : ℕ) (es : List LogEntry) → IsGrowing es → IsGrowing (drop n es)
IsGrowing-drop zero es h = h
IsGrowing-drop (suc n) [] h = h
IsGrowing-drop (suc n) (e ∷ es) h = IsGrowing-drop n es (IsGrowing-tail e es h)

pub IsGrowing-take : (n : ℕ) (es : List LogEntry) → IsGrowing es → IsGrowing (take n es)
IsGrowing-take n es h i j d l m =
    let k : j < min n (length es) = rw (← length-take n es) m in
    rw (get_or-take n es i d (omega arith), get_or-take n es j d (omega arith)) (h i j d l (omega arith))

-- an entry that the log has no entry of, and that isn't below the others of its side and block, may stand last
about_self : (e : LogEntry) → is_about (is_home_side e.old) e.block e ≡ true
about_self e =
    elim (is_home_side e.old) as
    (λ t. ((if t then t else not t) && nat_eq e.block e.block) ≡ true) [
      | true ↦ grind (arith, nat_tests)
      | false ↦ grind (arith, nat_tests)
    ]

about_back : (e f : LogEntry) → is_about (is_home_side e.old) e.block f ≡ true → is_about (is_home_side f.old) f.block e ≡ true
about_back e f h = about_same (is_home_side e.old) e.block f e h (about_self e)

new_step : (c d : Bool) (e : LogEntry) (rest : Bool) (i m : ℕ) → c ≡ true → ((c && nat_eq e.interval i) || rest) ≡ false →
    max (if c then e.interval + 1 else 0) m ≤ i + 1 → e.interval < i
new_step c d e rest i m h n l = grind (arith, nat_tests)

rest_false : (a b : Bool) → (a || b) ≡ false → b ≡ false
rest_false a b h = grind arith

pub new_last : (es : List LogEntry) (i b : ℕ) (old : Old) → has_entry es i (is_home_side old) b ≡ false →
    logged_to es (is_home_side old) b ≤ i + 1 →
    All (λ e. StandsBefore e (record { interval = i; block = b; old = old })) es
new_last [] i b old h l = All-nil (λ f. StandsBefore f (record { interval = i; block = b; old = old }))
new_last (e ∷ es) i b old h l =
    All-cons (λ f. StandsBefore f (record { interval = i; block = b; old = old })) e es
    (λ a. new_step (is_about (is_home_side old) b e) true e (has_entry es i (is_home_side old) b) i (logged_to es (is_home_side old) b)
    (about_back e (record { interval = i; block = b; old = old }) a) h l)
    (new_last es i b old (rest_false _ _ h) (omega arith))

pub IsGrowing-push : (es : List LogEntry) (i b : ℕ) (old : Old) → IsGrowing es → has_entry es i (is_home_side old) b ≡ false →
    logged_to es (is_home_side old) b ≤ i + 1 →
    IsGrowing (es ++ record { interval = i; block = b; old = old } ∷ [])
IsGrowing-push es i b old g h l = all_pairs_push StandsBefore es (record { interval = i; block = b; old = old }) g (new_last es i b old h l)

pub IsGrowing-from : (k : ℕ) (es : List LogEntry) → IsGrowing es → IsGrowing (entries_from k es)
IsGrowing-from k es g = AllPairs-filter StandsBefore (λ e. nat_le k e.interval) es g

shorter_step : (c : Bool) (e : LogEntry) (es fs : List LogEntry) → length fs ≤ length es → length (cond c (e ∷ fs) fs) ≤ length (e ∷ es)
shorter_step true e es fs h = omega arith
shorter_step false e es fs h = omega arith

pub from_shorter : (k : ℕ) (es : List LogEntry) → length (entries_from k es) ≤ length es
from_shorter k [] = omega arith
from_shorter k (e ∷ es) = shorter_step (nat_le k e.interval) e es (entries_from k es) (from_shorter k es)

pub IsLog-from : (k : ℕ) (es : List LogEntry) (n : ℕ) → IsLog (record { entries = es; limit = n }) →
    IsLog (record { entries = entries_from k es; limit = n })
IsLog-from k es n h = record {
  within = omega (arith, h.within, from_shorter k es);
  growing = IsGrowing-from k es h.growing;
}

pub IsLog-push : (es : List LogEntry) (n i b : ℕ) (old : Old) → IsLog (record { entries = es; limit = n }) → length es < n →
    has_entry es i (is_home_side old) b ≡ false →
    logged_to es (is_home_side old) b ≤ i + 1 →
    IsLog (record { entries = es ++ record { interval = i; block = b; old = old } ∷ []; limit = n })
IsLog-push es n i b old h m a l = record {
  within = simp length-append (omega arith);
  growing = IsGrowing-push es i b old h.growing a l;
}
