-- The places agree with the list as it grows.
use Rattle.std.proofs.Common.{◌≡◌, ℕ, ◌+◌, ◌<◌, Bool, true, false, ◌⊎◌, inl, inr, List, [], ◌∷◌, ◌++◌, Option, Some, length, get_or, take}
use Rattle.std.proofs.Common.{refl, sym, ap, subst, ◌∙◌, arith}
use Rattle.std.specs.Prelude.{nat_le, if◌then◌else◌}
use Rattle.std.proofs.lemmas.List.{map_push, length-map, length_push, get_or_append_left, get_or_push, take-append-le, take_all}
use Rattle.std.proofs.lemmas.Bool.Decides.{nat_tests}
use Rattle.log_buffer.specs.Log.{LogEntry, is_home_side, is_about}
use Rattle.log_buffer.specs.Index.{Stored, Newest, entries_of, last_place, newest_of, place_before, are_same, IsLinked, HasLast, IsIndexed}
use Rattle.sn_base.proofs.LastPlace.{last_place-push}

-- the table has another place for the side and block of an entry
abbrev pub Puts : Newest → Newest → LogEntry → Option ℕ → Type 0
Puts newest new e o =
    (s : Bool) (b : ℕ) → newest_of new s b ≡ (if are_same (is_home_side e.old) e.block s b then o else newest_of newest s b)

pub puts : (newest new : Newest) (e : LogEntry) (side : Bool) (o : Option ℕ) → side ≡ is_home_side e.old →
    ((s : Bool) (b : ℕ) → newest_of new s b ≡ (if are_same side e.block s b then o else newest_of newest s b)) → Puts newest new e o
puts newest new e side o h k = λ s b. k s b ∙ ap (λ t. if are_same t e.block s b then o else newest_of newest s b) h

same_place : (es fs : List LogEntry) (i : ℕ) (x y : Stored) → x ≡ y → take i es ≡ take i fs → x.older ≡ place_before es i x.entry →
    y.older ≡ place_before fs i y.entry
same_place es fs i x y e t h =
    subst (λ (z : Stored). z.older ≡ place_before fs i z.entry) e (h ∙ ap (λ gs. last_place gs (is_home_side x.entry.old) x.entry.block) t)

pub entries_of-push : (ss : List Stored) (x : Stored) → entries_of (ss ++ x ∷ []) ≡ entries_of ss ++ x.entry ∷ []
entries_of-push ss x = map_push (λ (y : Stored). y.entry) ss x

last_or_before : (i n : ℕ) → i < n + 1 → (i < n) ⊎ (i ≡ n)
last_or_before i n l =
    elim (nat_le n i) as (λ t. nat_le n i ≡ t →
    (i < n) ⊎ (i ≡ n)) [ true ↦ λ e. inr (grind (arith, nat_tests)) | false ↦ λ e. inl (grind (arith, nat_tests)) ] refl

pub IsLinked-push : (ss : List Stored) (x : Stored) → IsLinked ss →
    x.older ≡ last_place (entries_of ss) (is_home_side x.entry.old) x.entry.block → IsLinked (ss ++ x ∷ [])
IsLinked-push ss x h e i d l =
    let m : length (entries_of ss) ≡ length ss = length-map ss (λ (y : Stored). y.entry) in
    elim (last_or_before i (length ss) (subst (λ n. i < n) (length_push ss x) l)) [
      | inl k ↦
          same_place (entries_of ss) (entries_of (ss ++ x ∷ [])) i (get_or ss i d) (get_or (ss ++ x ∷ []) i d)
          (sym (get_or_append_left ss (x ∷ []) d i k))
          (sym (ap (take i) (entries_of-push ss x) ∙ take-append-le i (entries_of ss) (x.entry ∷ []) (omega arith)))
          (h i d k)
      | inr k ↦
          same_place (entries_of ss) (entries_of (ss ++ x ∷ [])) i x (get_or (ss ++ x ∷ []) i d)
          (sym (get_or_push ss x d i (sym k)))
          (sym (ap (take i) (entries_of-push ss x) ∙ take-append-le i (entries_of ss) (x.entry ∷ []) (omega arith)))
          (e ∙ ap (λ es. last_place es (is_home_side x.entry.old) x.entry.block) (sym (take_all i (entries_of ss) (omega arith))))
    ]

last_step : (t : Bool) (o p q r : Option ℕ) → o ≡ (if t then p else q) → q ≡ r → o ≡ (if t then p else r)
last_step true o p q r h k = h
last_step false o p q r h k = h ∙ k

pub HasLast-push : (es : List LogEntry) (e : LogEntry) (newest new : Newest) → HasLast es newest → Puts newest new e (Some (length es)) →
    HasLast (es ++ e ∷ []) new
HasLast-push es e newest new h k s b l =
    last_step (is_about s b e) (newest_of new s b) (Some (length es)) (newest_of newest s b) (last_place es s b) (k s b) (h s b l)
    ∙ sym (last_place-push es e s b)

pub IsIndexed-push : (ss : List Stored) (e : LogEntry) (o : Option ℕ) (n : ℕ) (newest new : Newest) → IsIndexed ss newest →
    e.block < 65536 → o ≡ newest_of newest (is_home_side e.old) e.block →
    n ≡ length ss → Puts newest new e (Some n) → IsIndexed (ss ++ record { entry = e; older = o } ∷ []) new
IsIndexed-push ss e o n newest new h l p q k =
    let m : Some n ≡ Some (length (entries_of ss)) = ap (λ i. Some i) (q ∙ sym (length-map ss (λ (y : Stored). y.entry))) in
    record {
      linked = IsLinked-push ss (record { entry = e; older = o }) h.linked (p ∙ h.last (is_home_side e.old) e.block l);
      last =
          subst (λ es. HasLast es new) (sym (entries_of-push ss (record { entry = e; older = o })))
          (HasLast-push (entries_of ss) e newest new h.last (subst (Puts newest new e) m k));
    }
