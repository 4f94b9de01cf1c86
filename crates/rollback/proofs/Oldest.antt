-- In a growing log the last entry of a side and block tells whether any of them is from a checkpoint on.
use Rattle.std.proofs.Common.{◌≡◌, ℕ, ◌<◌, Bool, true, false, ◌&&◌, ◌||◌, List, [], ◌∷◌, Option, Some, None, length, get_or, take, refl}
use Rattle.std.proofs.Common.{inl, inr, sym, ap, subst, ◌∙◌, arith, add-one}
use Rattle.std.specs.Prelude.{nat_le, slice_get, if◌then◌else◌}
use Rattle.std.proofs.lemmas.List.{get_or-take}
use Rattle.std.proofs.lemmas.Option.{get_or_from_slice_get, slice_get_cases}
use Rattle.std.proofs.lemmas.Bool.Decides.{nat_tests}
use Rattle.log_buffer.specs.Log.{is_home_side, is_about, IsGrowing}
use Rattle.log_buffer.specs.Index.{place_seen, last_place, place_before}
use Rattle.log_buffer.proofs.Entries.{about_same, IsGrowing-head, IsGrowing-tail, IsGrowing-take}
use Rattle.log_buffer.proofs.LastPlace.{IsPlaceOf, last_place-is, place-take}
use Rattle.rollback.specs.Unwound.{LogEntry, is_changed}

-- whether the entry at a place, if one is given, is not below the checkpoint
abbrev pub is_from : List LogEntry → ℕ → LogEntry → Option ℕ → Bool
is_from es k d None = false
is_from es k d (Some p) = nat_le k (get_or es p d).interval

none_step : (c r : Bool) (e : LogEntry) (es : List LogEntry) (k : ℕ) (d : LogEntry) → r ≡ false →
    ((c && nat_le k e.interval) || r) ≡ is_from (e ∷ es) k d (if c then Some 0 else None)
none_step true r e es k d h = grind arith
none_step false r e es k d h = h

some_step : (c r : Bool) (k n m : ℕ) → r ≡ nat_le k m → (c ≡ true → n < m) → ((c && nat_le k n) || r) ≡ nat_le k m
some_step true r k n m h l = let i : n < m = l refl in grind (arith, nat_tests)
some_step false r k n m h l = h

from_step : (e : LogEntry) (es : List LogEntry) (s : Bool) (b k : ℕ) (d : LogEntry) (o : Option ℕ) → IsGrowing (e ∷ es) →
    IsPlaceOf es s b o → is_changed es s b k ≡ is_from es k d o →
    is_changed (e ∷ es) s b k ≡ is_from (e ∷ es) k d (place_seen (is_about s b e) o)
from_step e es s b k d None g i h = none_step (is_about s b e) (is_changed es s b k) e es k d h
from_step e es s b k d (Some p) g i h =
    rw add-one
    (some_step (is_about s b e) (is_changed es s b k) k e.interval (get_or es p d).interval h
    (λ q. IsGrowing-head e es g p d i.0 (about_same s b e (get_or es p d) q (i.1 d))))

pub changed-last : (es : List LogEntry) (s : Bool) (b k : ℕ) (d : LogEntry) → IsGrowing es →
    is_changed es s b k ≡ is_from es k d (last_place es s b)
changed-last [] s b k d g = refl
changed-last (e ∷ es) s b k d g =
    from_step e es s b k d (last_place es s b) g (last_place-is es s b) (changed-last es s b k d (IsGrowing-tail e es g))

-- the place of the entry before another is one of the list, before that one
pub before-inside : (es : List LogEntry) (i q : ℕ) (e : LogEntry) → place_before es i e ≡ Some q → (q < length es) × (q < i)
before-inside es i q e h =
    let p = place-take es i (is_home_side e.old) e.block (Some q)
    (subst (IsPlaceOf (take i es) (is_home_side e.old) e.block) h (last_place-is (take i es) (is_home_side e.old) e.block)) in
    (p.0.0, omega (arith, p.1))

-- the place that is given for the entry at a place is one of the list
pub older-inside : (es : List LogEntry) (i q : ℕ) (o : Option ℕ) → i < length es →
    ((e : LogEntry) → slice_get es i ≡ Some e → o ≡ place_before es i e) → o ≡ Some q →
    q < length es
older-inside es i q o l h k =
    elim (slice_get_cases es i).1 [
      | inl x ↦ (before-inside es i q x.0 (sym (h x.0 x.2) ∙ k)).0
      | inr n ↦ absurd (omega (arith, n.0))
    ]

-- with no entry before it, an entry is the oldest
pub oldest-alone : (es : List LogEntry) (i k : ℕ) (e : LogEntry) (o : Option ℕ) → IsGrowing es → o ≡ place_before es i e → o ≡ None →
    is_changed (take i es) (is_home_side e.old) e.block k ≡ false
oldest-alone es i k e o g h n =
    changed-last (take i es) (is_home_side e.old) e.block k e (IsGrowing-take i es g) ∙ ap (is_from (take i es) k e) (sym h ∙ n)

-- and else the one before it tells
pub oldest-told : (es : List LogEntry) (i k q : ℕ) (e f : LogEntry) (o : Option ℕ) → IsGrowing es → o ≡ place_before es i e → o ≡ Some q →
    slice_get es q ≡ Some f →
    is_changed (take i es) (is_home_side e.old) e.block k ≡ nat_le k f.interval
oldest-told es i k q e f o g h n r =
    let p = before-inside es i q e (sym h ∙ n) in
    changed-last (take i es) (is_home_side e.old) e.block k f (IsGrowing-take i es g)
    ∙ (ap (is_from (take i es) k f) (sym h ∙ n)
    ∙ ap (λ (x : LogEntry). nat_le k x.interval) (get_or-take i es q f p.1 ∙ get_or_from_slice_get es q f f r))
