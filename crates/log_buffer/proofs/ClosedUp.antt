-- The places agree with the list as its entries go.
use Rattle.std.proofs.Common.{◌≡◌, ℕ, ◌+◌, ◌<◌, ◌≤◌, Bool, true, false, cond, List, [], ◌∷◌, ◌++◌, Option, Some, None, length, get_or, take}
use Rattle.std.proofs.Common.{drop, set, refl, sym, ap, subst, ◌∙◌, arith}
use Rattle.std.specs.Prelude.{nat_le, is_none, if◌then◌else◌}
use Rattle.std.proofs.lemmas.List.{length-map, take_more, take_more_set, take_all, get_or-map, drop-set-lt, drop_more, length-take-le}
use Rattle.std.proofs.lemmas.Bool.Decides.{nat_tests}
use Rattle.log_buffer.specs.Log.{LogEntry, is_home_side, is_about, entries_from}
use Rattle.log_buffer.specs.Index.{Stored, Newest, entries_of, last_place, place_seen, newest_of, place_before, place_now, IsLinked}
use Rattle.log_buffer.specs.Index.{HasLast, IsIndexed}
use Rattle.sn_base.proofs.LastPlace.{last_place-push}
use Rattle.log_buffer.proofs.LastPlace.{about_is}
use Rattle.log_buffer.proofs.Indexed.{Puts, IsLinked-push, entries_of-push}

-- where the table is renewed as far as some entries: for a side and block that has none of them it is as it was, and else as it will be
abbrev pub renewed : Option ℕ → Option ℕ → Option ℕ → Option ℕ
renewed None was will = was
renewed (Some p) was will = will

renewed_step : (t : Bool) (n : ℕ) (seen was now now' will will' o : Option ℕ) → now' ≡ (if t then o else now) →
    now ≡ renewed seen was will → (t ≡ true → o ≡ will') → (t ≡ false → will ≡ will') →
    now' ≡ renewed (if t then Some n else seen) was will'
renewed_step true n seen was now now' will will' o h k p q = h ∙ p refl
renewed_step false n seen was now now' will will' o h k p q = h ∙ (k ∙ ap (renewed seen was) (q refl))

renewed_end : (seen was will : Option ℕ) → was ≡ seen → (seen ≡ None → will ≡ None) → renewed seen was will ≡ will
renewed_end None was will h k = h ∙ sym (k refl)
renewed_end (Some p) was will h k = refl

entry_there : (ss : List Stored) (i : ℕ) (x : Stored) → i < length ss → x ≡ get_or ss i x →
    take (i + 1) (entries_of ss) ≡ take i (entries_of ss) ++ x.entry ∷ []
entry_there ss i x l e =
    let m : length (entries_of ss) ≡ length ss = length-map ss (λ (y : Stored). y.entry) in
    take_more (entries_of ss) i x.entry (omega arith)
    ∙ ap (λ f. take i (entries_of ss) ++ f ∷ [])
    (get_or-map (λ (y : Stored). y.entry) ss i x x.entry l ∙ ap (λ (y : Stored). y.entry) (sym e))

-- the table as the places of the first i entries are taken out
abbrev pub IsForgotten : List Stored → Newest → Newest → ℕ → Type 0
IsForgotten ss was now i =
    (s : Bool) (b : ℕ) → b < 65536 → newest_of now s b ≡ renewed (last_place (take i (entries_of ss)) s b) (newest_of was s b) None

pub IsForgotten-more : (ss : List Stored) (was now new : Newest) (i : ℕ) (x : Stored) → i < length ss → x ≡ get_or ss i x →
    IsForgotten ss was now i → Puts now new x.entry None → IsForgotten ss was new (i + 1)
IsForgotten-more ss was now new i x l e h k s b m =
    renewed_step (is_about s b x.entry) (length (take i (entries_of ss))) (last_place (take i (entries_of ss)) s b) (newest_of was s b)
    (newest_of now s b) (newest_of new s b) None None None
    (k s b) (h s b m) (λ q. refl) (λ q. refl)
    ∙ ap (λ o. renewed o (newest_of was s b) None)
    (sym (ap (λ es. last_place es s b) (entry_there ss i x l e) ∙ last_place-push (take i (entries_of ss)) x.entry s b))

pub IsForgotten-all : (ss : List Stored) (was now : Newest) (i : ℕ) → length ss ≤ i → HasLast (entries_of ss) was →
    IsForgotten ss was now i → HasLast [] now
IsForgotten-all ss was now i l h k s b m =
    let n : length (entries_of ss) ≡ length ss = length-map ss (λ (y : Stored). y.entry) in
    k s b m
    ∙ (ap (λ es. renewed (last_place es s b) (newest_of was s b) None) (take_all i (entries_of ss) (omega arith))
    ∙ renewed_end (last_place (entries_of ss) s b) (newest_of was s b) None (h s b m) (λ q. refl))

none_step : (t p : Bool) (e : LogEntry) (fs : List LogEntry) (s : Bool) (b : ℕ) (o : Option ℕ) → place_seen (is_about s b e) o ≡ None →
    (o ≡ None → last_place fs s b ≡ None) →
    last_place (cond p (e ∷ fs) fs) s b ≡ None
none_step t p e fs s b (Some n) h k = cc
none_step t false e fs s b None h k = k refl
none_step t true e fs s b None h k = ap (place_seen (is_about s b e)) (k refl) ∙ h

-- what a list has no entry of, that stays of it has none of
pub last_place-from : (k : ℕ) (es : List LogEntry) (s : Bool) (b : ℕ) → last_place es s b ≡ None → last_place (entries_from k es) s b ≡ None
last_place-from k [] s b h = refl
last_place-from k (e ∷ es) s b h =
    none_step true (nat_le k e.interval) e (entries_from k es) s b (last_place es s b) h (last_place-from k es s b)

from_push_step : (p q : Bool) (e f : LogEntry) (es fs : List LogEntry) → fs ≡ es ++ cond q (f ∷ []) [] →
    cond p (e ∷ fs) fs ≡ cond p (e ∷ es) es ++ cond q (f ∷ []) []
from_push_step true q e f es fs h = ap (λ xs. e ∷ xs) h
from_push_step false q e f es fs h = h

pub entries_from-push : (k : ℕ) (es : List LogEntry) (f : LogEntry) →
    entries_from k (es ++ f ∷ []) ≡ entries_from k es ++ cond (nat_le k f.interval) (f ∷ []) []
entries_from-push k [] f = refl
entries_from-push k (e ∷ es) f =
    from_push_step (nat_le k e.interval) (nat_le k f.interval) e f (entries_from k es) (entries_from k (es ++ f ∷ []))
    (entries_from-push k es f)

-- the list as its first i entries are gone through and w of them are kept
pub record IsClosedUp (k : ℕ) (ss : List Stored) (was : Newest) (now : List Stored) (newest : Newest) (i w : ℕ) : Type 0 where
  pub few : w ≤ i
  pub kept : entries_of (take w now) ≡ entries_from k (take i (entries_of ss))
  pub rest : drop i now ≡ drop i ss
  pub linked : IsLinked (take w now)
  pub last : (s : Bool) (b : ℕ) → b < 65536 →
      newest_of newest s b ≡ renewed (last_place (take i (entries_of ss)) s b) (newest_of was s b)
      (last_place (entries_of (take w now)) s b)

same_head : {X : Type 0} (x y : X) (xs ys : List X) → x ∷ xs ≡ y ∷ ys → (x ≡ y) × (xs ≡ ys)
same_head x y xs ys h = (cc, cc)

-- what is read is what stood there
pub read_there : (k : ℕ) (ss : List Stored) (was : Newest) (now : List Stored) (newest : Newest) (i w : ℕ) (x : Stored) →
    IsClosedUp k ss was now newest i w → length now ≡ length ss → i < length ss →
    x ≡ get_or now i x → (x ≡ get_or ss i x) × (drop (i + 1) now ≡ drop (i + 1) ss)
read_there k ss was now newest i w x h l m e =
    let t = same_head (get_or now i x) (get_or ss i x) (drop (i + 1) now) (drop (i + 1) ss)
    (sym (drop_more now i x (omega arith)) ∙ (h.rest ∙ drop_more ss i x m)) in
    (e ∙ t.0, t.1)

now_step : (o was will : Option ℕ) → (o ≡ None → will ≡ None) → (if is_none o then None else renewed o was will) ≡ will
now_step None was will h = sym (h refl)
now_step (Some p) was will h = refl

-- the place that an entry is given
pub place_now-is : (k : ℕ) (ss : List Stored) (was : Newest) (now : List Stored) (newest : Newest) (i w : ℕ) (x : Stored) →
    IsClosedUp k ss was now newest i w → IsLinked ss → i < length ss →
    x ≡ get_or ss i x → x.entry.block < 65536 →
    place_now newest x ≡ last_place (entries_of (take w now)) (is_home_side x.entry.old) x.entry.block
place_now-is k ss was now newest i w x h g l e m =
    let s = is_home_side x.entry.old in
    let b = x.entry.block in
    let q : x.older ≡ place_before (entries_of ss) i x.entry = subst (λ (y : Stored). y.older ≡ place_before (entries_of ss) i y.entry)
    (sym e) (g i x l) in
    ap (λ o. if is_none x.older then None else o)
    (h.last s b m ∙ ap (λ o. renewed o (newest_of was s b) (last_place (entries_of (take w now)) s b)) (sym q))
    ∙ now_step x.older (newest_of was s b) (last_place (entries_of (take w now)) s b)
    (λ n. ap (λ es. last_place es s b) h.kept ∙ last_place-from k (take i (entries_of ss)) s b (sym q ∙ n))

seen_more : (ss : List Stored) (i : ℕ) (x : Stored) (s : Bool) (b : ℕ) → i < length ss → x ≡ get_or ss i x →
    last_place (take (i + 1) (entries_of ss)) s b
    ≡ (if is_about s b x.entry then Some (length (take i (entries_of ss))) else last_place (take i (entries_of ss)) s b)
seen_more ss i x s b l e = ap (λ es. last_place es s b) (entry_there ss i x l e) ∙ last_place-push (take i (entries_of ss)) x.entry s b

about_place : (es : List LogEntry) (e : LogEntry) (s : Bool) (b : ℕ) → is_about s b e ≡ true →
    last_place es (is_home_side e.old) e.block ≡ last_place es s b
about_place es e s b h = let k = about_is s b e h in rw (k.0, k.1) refl

freed_step : (p : Bool) (f : LogEntry) → p ≡ false → cond p (f ∷ []) [] ≡ []
freed_step p f h = grind arith

kept_step : (p : Bool) (f : LogEntry) → p ≡ true → cond p (f ∷ []) [] ≡ f ∷ []
kept_step p f h = grind arith

append_nil : (es : List LogEntry) → es ++ [] ≡ es
append_nil [] = refl
append_nil (e ∷ es) = ap (λ fs. e ∷ fs) (append_nil es)

-- an entry goes
pub IsClosedUp-freed : (k : ℕ) (ss : List Stored) (was : Newest) (now : List Stored) (newest new : Newest) (i w : ℕ) (x : Stored)
    (o : Option ℕ) → IsClosedUp k ss was now newest i w → IsLinked ss →
    length now ≡ length ss → i < length ss → x ≡ get_or now i x → x.entry.block < 65536 → o ≡ place_now newest x → x.entry.interval < k →
    Puts newest new x.entry o → IsClosedUp k ss was now new (i + 1) w
IsClosedUp-freed k ss was now newest new i w x o h g m l e n p q r =
    let t = read_there k ss was now newest i w x h m l e in
    let u : o ≡ last_place (entries_of (take w now)) (is_home_side x.entry.old) x.entry.block = p
    ∙ place_now-is k ss was now newest i w x h g l t.0 n in
    let f : nat_le k x.entry.interval ≡ false = grind (arith, nat_tests) in
    record {
      few = omega (arith, h.few);
      kept =
          h.kept
          ∙ sym (ap (entries_from k) (entry_there ss i x l t.0) ∙ (entries_from-push k (take i (entries_of ss)) x.entry
          ∙ (ap (λ fs. entries_from k (take i (entries_of ss)) ++ fs) (freed_step (nat_le k x.entry.interval) x.entry f)
          ∙ append_nil (entries_from k (take i (entries_of ss))))));
      rest = t.1;
      linked = h.linked;
      last = λ s b j.
          renewed_step (is_about s b x.entry) (length (take i (entries_of ss))) (last_place (take i (entries_of ss)) s b)
          (newest_of was s b) (newest_of newest s b) (newest_of new s b)
          (last_place (entries_of (take w now)) s b) (last_place (entries_of (take w now)) s b) o
          (r s b) (h.last s b j) (λ a. u ∙ about_place (entries_of (take w now)) x.entry s b a) (λ a. refl)
          ∙ ap (λ v. renewed v (newest_of was s b) (last_place (entries_of (take w now)) s b)) (sym (seen_more ss i x s b l t.0));
    }

-- an entry stays
pub IsClosedUp-kept : (k : ℕ) (ss : List Stored) (was : Newest) (now : List Stored) (newest new : Newest) (i w : ℕ) (x : Stored)
    (o : Option ℕ) → IsClosedUp k ss was now newest i w → IsLinked ss →
    length now ≡ length ss → i < length ss → x ≡ get_or now i x → x.entry.block < 65536 → o ≡ place_now newest x → k ≤ x.entry.interval →
    Puts newest new x.entry (Some w) →
    IsClosedUp k ss was (set now w (record { entry = x.entry; older = o })) new (i + 1) (w + 1)
IsClosedUp-kept k ss was now newest new i w x o h g m l e n p q r =
    let y : Stored = record { entry = x.entry; older = o } in
    let t = read_there k ss was now newest i w x h m l e in
    let few : w < length now = omega (arith, h.few) in
    let u : o ≡ last_place (entries_of (take w now)) (is_home_side x.entry.old) x.entry.block = p
    ∙ place_now-is k ss was now newest i w x h g l t.0 n in
    let f : nat_le k x.entry.interval ≡ true = grind (arith, nat_tests) in
    let z : take (w + 1) (set now w y) ≡ take w now ++ y ∷ [] = take_more_set now w y few in
    let c : entries_of (take (w + 1) (set now w y)) ≡ entries_of (take w now) ++ x.entry ∷ [] = ap entries_of z
    ∙ entries_of-push (take w now) y in
    let d : length (entries_of (take w now)) ≡ w = length-map (take w now) (λ (v : Stored). v.entry) ∙ length-take-le w now (omega arith) in
    record {
      few = omega (arith, h.few);
      kept =
          c ∙ (ap (λ fs. fs ++ x.entry ∷ []) h.kept
          ∙ sym (ap (entries_from k) (entry_there ss i x l t.0) ∙ (entries_from-push k (take i (entries_of ss)) x.entry
          ∙ ap (λ fs. entries_from k (take i (entries_of ss)) ++ fs) (kept_step (nat_le k x.entry.interval) x.entry f))));
      rest = drop-set-lt (i + 1) now w y (omega (arith, h.few)) ∙ t.1;
      linked = subst IsLinked (sym z) (IsLinked-push (take w now) y h.linked u);
      last = λ s b j.
          renewed_step (is_about s b x.entry) (length (take i (entries_of ss))) (last_place (take i (entries_of ss)) s b)
          (newest_of was s b) (newest_of newest s b) (newest_of new s b)
          (last_place (entries_of (take w now)) s b) (last_place (entries_of (take (w + 1) (set now w y))) s b) (Some w)
          (r s b) (h.last s b j)
          (λ a. ap (λ v. Some v) (sym d)
          ∙ sym (ap (λ es. last_place es s b) c
          ∙ (last_place-push (entries_of (take w now)) x.entry s b ∙ chosen (is_about s b x.entry) _ _ a)))
          (λ a. sym (ap (λ es. last_place es s b) c
          ∙ (last_place-push (entries_of (take w now)) x.entry s b ∙ other (is_about s b x.entry) _ _ a)))
          ∙ ap (λ v. renewed v (newest_of was s b) (last_place (entries_of (take (w + 1) (set now w y))) s b))
          (sym (seen_more ss i x s b l t.0));
    }
  where
    chosen : (t : Bool) (v v' : Option ℕ) → t ≡ true → (if t then v else v') ≡ v
    chosen t v v' h = grind arith

    other : (t : Bool) (v v' : Option ℕ) → t ≡ false → (if t then v else v') ≡ v'
    other t v v' h = grind arith

-- all entries were gone through
pub IsClosedUp-all : (k : ℕ) (ss : List Stored) (was : Newest) (now : List Stored) (newest : Newest) (i w : ℕ) → length ss ≤ i →
    IsIndexed ss was → IsClosedUp k ss was now newest i w → IsIndexed (take w now) newest
IsClosedUp-all k ss was now newest i w l g h =
    let n : length (entries_of ss) ≡ length ss = length-map ss (λ (y : Stored). y.entry) in
    let a : take i (entries_of ss) ≡ entries_of ss = take_all i (entries_of ss) (omega arith) in
    record {
      linked = h.linked;
      last = λ s b j.
          h.last s b j
          ∙ (ap (λ es. renewed (last_place es s b) (newest_of was s b) (last_place (entries_of (take w now)) s b)) a
          ∙ renewed_end (last_place (entries_of ss) s b) (newest_of was s b) (last_place (entries_of (take w now)) s b) (g.last s b j)
          (λ q. ap (λ es. last_place es s b) h.kept ∙ last_place-from k (take i (entries_of ss)) s b (ap (λ es. last_place es s b) a ∙ q)));
    }
