-- The list of the touched places: one place more, and what a pass over it leaves.
use Rattle.std.proofs.Common.{◌≡◌, ◌≢◌, ℕ, ◌+◌, ◌<◌, ◌≤◌, Bool, true, false, ◌||◌, cond, List, [], ◌∷◌, ◌++◌, length, get_or, set}
use Rattle.std.proofs.Common.{drop, refl, sym, ap, subst, ◌∙◌, arith, length-set, get_or-set_same, get_or-set_other, ext_get_or}
use Rattle.std.specs.Prelude.{nat_eq, count_by, replicate}
use Rattle.std.specs.List.{All}
use Rattle.std.proofs.lemmas.Bool.Decides.{nat_tests}
use Rattle.std.proofs.lemmas.List.{length_push, set-get_or, length-replicate, get_or-replicate, drop_more, drop_all}
use Rattle.std.proofs.lemmas.List.Elements.{All-push}
use Rattle.std.proofs.lemmas.List.Sums.{count_by-le-length, sum_by-set}
use Rattle.touched_places.specs.Touched.{is_marked, is_listed, IsListOf}

-- one place more is listed
listed-push : (places : List ℕ) (new place : ℕ) → is_listed (places ++ new ∷ []) place ≡ (is_listed places place || nat_eq new place)
listed-push [] new place = grind arith
listed-push (first ∷ places) new place = let h = listed-push places new place in grind arith

abbrev count : List Bool → ℕ
count marks = count_by (λ (mark : Bool). mark) marks

abbrev mark_of : Bool → ℕ
mark_of mark = cond mark 1 0

module _ (marks : List Bool) (places : List ℕ) (place : ℕ) (is : IsListOf marks places) (l : place < length marks) (bare : is_marked marks place ≡ false) where
  counts_more : count (set marks place true) ≡ count marks + 1
  counts_more =
      let e : count (set marks place true) + mark_of (is_marked marks place)
      ≡ count marks + 1 = sum_by-set mark_of marks place true false l in
      let z : mark_of (is_marked marks place) ≡ 0 = ap mark_of bare in
      omega arith

  -- a place that isn't marked has room in the list
  pub room-to_list : length places < length marks
  room-to_list =
      let h = count_by-le-length (λ (mark : Bool). mark) (set marks place true) in
      omega (arith, h, counts_more, is.once, length-set marks place true)

  all_listed : (p : ℕ) (t : Bool) → nat_eq place p ≡ t → is_marked (set marks place true) p ≡ true →
      is_listed (places ++ place ∷ []) p ≡ true
  all_listed p true e m = let h = listed-push places place p in grind arith
  all_listed p false e m =
      let n : p ≢ place = λ q. grind (arith, nat_tests) in
      let k : is_listed places p ≡ true = is.all p (sym (get_or-set_other marks place p true false n) ∙ m) in
      let h = listed-push places place p in
      grind arith

  pub listed-more : IsListOf (set marks place true) (places ++ place ∷ [])
  listed-more = record {
    inside =
        subst (λ (n : ℕ). All (λ (p : ℕ). p < n) (places ++ place ∷ [])) (sym (length-set marks place true))
        (All-push (λ (p : ℕ). p < length marks) places place is.inside l);
    all = λ p m. all_listed p (nat_eq place p) refl m;
    once = length_push places place ∙ (ap (λ (n : ℕ). n + 1) is.once ∙ sym counts_more);
  }

-- a place that is marked stays listed
pub listed-same : (marks : List Bool) (places : List ℕ) (place : ℕ) → is_marked marks place ≡ true → set marks place true ≡ marks
listed-same marks places place h = ap (set marks place) (sym h) ∙ set-get_or marks place false

-- a place that isn't listed any more after this one is this one, or wasn't listed before
pub unlisted : (first place : ℕ) (places : List ℕ) → nat_eq first place ≡ false → is_listed places place ≡ false →
    is_listed (first ∷ places) place ≡ false
unlisted first place places e h = grind arith

-- marks of which those of a list are still to be taken away
pub record AreUnmarked (was now : List Bool) (rest : List ℕ) : Type 0 where
  pub whole : length now ≡ length was
  pub others : (place : ℕ) → is_listed rest place ≡ false → is_marked now place ≡ false

pub unmarked-first : (marks : List Bool) (places : List ℕ) → IsListOf marks places → AreUnmarked marks marks places
unmarked-first marks places is = record { whole = refl; others = λ p h. by_test p (is_marked marks p) refl h }
  where
    by_test : (p : ℕ) (t : Bool) → is_marked marks p ≡ t → is_listed places p ≡ false → is_marked marks p ≡ false
    by_test p true e h = let k = is.all p e in absurd (grind arith)
    by_test p false e h = e

pub unmarked-more : (was now : List Bool) (places : List ℕ) (i place : ℕ) → i < length places → place ≡ get_or places i place →
    place < length now →
    AreUnmarked was now (drop i places) → AreUnmarked was (set now place false) (drop (i + 1) places)
unmarked-more was now places i place l e m h =
    record { whole = length-set now place false ∙ h.whole; others = λ p k. by_test p (nat_eq place p) refl k }
  where
    rest : drop i places ≡ place ∷ drop (i + 1) places
    rest = drop_more places i place l ∙ ap (λ (q : ℕ). q ∷ drop (i + 1) places) (sym e)

    by_test : (p : ℕ) (t : Bool) → nat_eq place p ≡ t → is_listed (drop (i + 1) places) p ≡ false →
        is_marked (set now place false) p ≡ false
    by_test p true q k =
        let s : place ≡ p = grind (arith, nat_tests) in
        subst (λ (j : ℕ). get_or (set now place false) j false ≡ false) s (get_or-set_same now place false false m)
    by_test p false q k =
        let n : p ≢ place = λ s. grind (arith, nat_tests) in
        get_or-set_other now place p false false n
        ∙ h.others p (ap (λ (ps : List ℕ). is_listed ps p) rest ∙ unlisted place p (drop (i + 1) places) q k)

pub unmarked-all : (was now : List Bool) (places : List ℕ) (i : ℕ) → length places ≤ i → AreUnmarked was now (drop i places) →
    now ≡ replicate (length was) false
unmarked-all was now places i l h =
    let none : drop i places ≡ [] = drop_all i places l in
    ext_get_or false now (replicate (length was) false) (h.whole ∙ sym (length-replicate (length was) false))
    (λ p m. h.others p (ap (λ (ps : List ℕ). is_listed ps p) none)
    ∙ sym (get_or-replicate (length was) p false false (omega (arith, h.whole))))
