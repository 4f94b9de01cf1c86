-- Where the entries of one side and block stand, and what they alone say.
use Rattle.std.proofs.Common.{◌≡◌, ℕ, suc, zero, ◌+◌, ◌<◌, ◌≤◌, Bool, true, false, ◌&&◌, ◌||◌, max, List, [], ◌∷◌, ◌++◌, Option, Some, None}
use Rattle.std.proofs.Common.{length, get_or, take, min, refl, sym, ap, ◌∙◌, arith, add-one}
use Rattle.std.specs.Prelude.{nat_le, nat_eq, if◌then◌else◌}
use Rattle.std.proofs.lemmas.List.{length-take, get_or-take}
use Rattle.std.proofs.lemmas.Bool.Decides.{nat_tests}
use Rattle.std.specs.Option.{option_map}
use Rattle.log_buffer.specs.Log.{LogEntry, is_home_side, is_about, earlier, entry_at, old_at, has_entry, logged_to, IsGrowing}
use Rattle.log_buffer.specs.Index.{place_seen, last_place}
use Rattle.log_buffer.proofs.Entries.{about_same, IsGrowing-head, IsGrowing-tail}

-- how many entries go up to a place
abbrev pub upto : Option ℕ → ℕ
upto None = 0
upto (Some p) = suc p

-- a place, if one is given, has an entry of this side and block
abbrev pub IsPlaceOf : List LogEntry → Bool → ℕ → Option ℕ → Type 0
IsPlaceOf es s b None = Unit {0}
IsPlaceOf es s b (Some p) = (p < length es) × ((d : LogEntry) → is_about s b (get_or es p d) ≡ true)

pub about_is : (s : Bool) (b : ℕ) (e : LogEntry) → is_about s b e ≡ true → (is_home_side e.old ≡ s) × (e.block ≡ b)
about_is true b e h = grind (arith, nat_tests)
about_is false b e h = grind (arith, nat_tests)

place_step : (s : Bool) (b : ℕ) (e : LogEntry) (es : List LogEntry) (o : Option ℕ) → IsPlaceOf es s b o →
    IsPlaceOf (e ∷ es) s b (place_seen (is_about s b e) o)
place_step s b e es None h =
    elim (is_about s b e) as
    (λ t. is_about s b e ≡ t →
    IsPlaceOf (e ∷ es) s b (if t then Some 0 else None)) [ true ↦ λ q. (omega arith, λ d. q) | false ↦ λ q. tt ] refl
place_step s b e es (Some p) h = rw add-one (omega (arith, h.0), h.1)

pub last_place-is : (es : List LogEntry) (s : Bool) (b : ℕ) → IsPlaceOf es s b (last_place es s b)
last_place-is [] s b = tt
last_place-is (e ∷ es) s b = place_step s b e es (last_place es s b) (last_place-is es s b)

has_step : (e : LogEntry) (es : List LogEntry) (i : ℕ) (s : Bool) (b : ℕ) (o : Option ℕ) →
    has_entry (take (upto o) es) i s b ≡ has_entry es i s b →
    has_entry (take (upto (place_seen (is_about s b e) o)) (e ∷ es)) i s b ≡ has_entry (e ∷ es) i s b
has_step e es i s b None h =
    elim (is_about s b e) as
    (λ t. is_about s b e ≡ t → has_entry (take (upto (if t then Some 0 else None)) (e ∷ es)) i s b ≡ has_entry (e ∷ es) i s b)
    [ true ↦ λ q. ap (λ t. (is_about s b e && nat_eq e.interval i) || t) h | false ↦ λ q. grind arith ] refl
has_step e es i s b (Some p) h = rw add-one (ap (λ t. (is_about s b e && nat_eq e.interval i) || t) h)

-- the entries up to the last of a side and block have what all have
pub has_entry-last : (es : List LogEntry) (i : ℕ) (s : Bool) (b : ℕ) →
    has_entry (take (upto (last_place es s b)) es) i s b ≡ has_entry es i s b
has_entry-last [] i s b = refl
has_entry-last (e ∷ es) i s b = has_step e es i s b (last_place es s b) (has_entry-last es i s b)

at_step : (e : LogEntry) (es : List LogEntry) (s : Bool) (b k : ℕ) (o : Option ℕ) → entry_at (take (upto o) es) s b k ≡ entry_at es s b k →
    entry_at (take (upto (place_seen (is_about s b e) o)) (e ∷ es)) s b k ≡ entry_at (e ∷ es) s b k
at_step e es s b k None h =
    elim (is_about s b e) as
    (λ t. is_about s b e ≡ t → entry_at (take (upto (if t then Some 0 else None)) (e ∷ es)) s b k ≡ entry_at (e ∷ es) s b k)
    [ true ↦ λ q. ap (λ o. if is_about s b e && nat_le k e.interval then Some (earlier e o) else o) h | false ↦ λ q. grind arith ] refl
at_step e es s b k (Some p) h = rw add-one (ap (λ o. if is_about s b e && nat_le k e.interval then Some (earlier e o) else o) h)

pub entry_at-last : (es : List LogEntry) (s : Bool) (b k : ℕ) → entry_at (take (upto (last_place es s b)) es) s b k ≡ entry_at es s b k
entry_at-last [] s b k = refl
entry_at-last (e ∷ es) s b k = at_step e es s b k (last_place es s b) (entry_at-last es s b k)

has_push_step : (a b c : Bool) → ((a || b) || c) ≡ (a || (b || c))
has_push_step a b c = grind arith

pub has_entry-push : (es : List LogEntry) (f : LogEntry) (i : ℕ) (s : Bool) (b : ℕ) →
    has_entry (es ++ f ∷ []) i s b ≡ (has_entry es i s b || (is_about s b f && nat_eq f.interval i))
has_entry-push [] f i s b = grind arith
has_entry-push (e ∷ es) f i s b =
    ap (λ t. (is_about s b e && nat_eq e.interval i) || t) (has_entry-push es f i s b)
    ∙ sym (has_push_step (is_about s b e && nat_eq e.interval i) (has_entry es i s b) _)

-- before an entry of a growing log those of its side and block have lesser intervals
pub logged_to-before : (es : List LogEntry) (p : ℕ) (s : Bool) (b : ℕ) (d : LogEntry) → IsGrowing es → p < length es →
    is_about s b (get_or es p d) ≡ true →
    logged_to (take p es) s b ≤ (get_or es p d).interval
logged_to-before [] p s b d g l h = absurd (omega arith)
logged_to-before (e ∷ es) zero s b d g l h = omega arith
logged_to-before (e ∷ es) (suc p) s b d g l h =
    before_step (is_about s b e) e (get_or es p d).interval (logged_to (take p es) s b)
    (λ q. IsGrowing-head e es g p d (omega arith) (about_same s b e (get_or es p d) q h))
    (logged_to-before es p s b d (IsGrowing-tail e es g) (omega arith) h)
  where
    before_step : (c : Bool) (e : LogEntry) (n m : ℕ) → (c ≡ true → e.interval < n) → m ≤ n → max (if c then e.interval + 1 else 0) m ≤ n
    before_step true e n m h l = let k : e.interval < n = h refl in omega arith
    before_step false e n m h l = omega arith

pub take-take : {X : Type 0} (m n : ℕ) (es : List X) → m ≤ n → take m (take n es) ≡ take m es
take-take zero n es l = refl
take-take (suc m) zero es l = absurd (omega arith)
take-take (suc m) (suc n) [] l = refl
take-take (suc m) (suc n) (e ∷ es) l = ap (λ xs. e ∷ xs) (take-take m n es (omega arith))

-- a place among the first of a list
pub place-take : (es : List LogEntry) (n : ℕ) (s : Bool) (b : ℕ) (o : Option ℕ) → IsPlaceOf (take n es) s b o →
    IsPlaceOf es s b o × (upto o ≤ n) × (take (upto o) (take n es) ≡ take (upto o) es)
place-take es n s b None h = (tt, omega arith, refl)
place-take es n s b (Some p) h =
    let l : p < min n (length es) = rw (← length-take n es) h.0 in (
      (omega arith, λ d. rw (← get_or-take n es p d (omega arith)) (h.1 d)),
      omega arith,
      take-take (suc p) n es (omega arith),
    )

pub old_at-last : (es : List LogEntry) (s : Bool) (b k : ℕ) → old_at (take (upto (last_place es s b)) es) s b k ≡ old_at es s b k
old_at-last es s b k = ap (option_map (λ (e : LogEntry). e.old)) (entry_at-last es s b k)
