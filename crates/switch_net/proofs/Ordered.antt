-- Where a number stands in a list whose numbers ascend.
use Rattle.std.proofs.Common.{◌≡◌, ℕ, zero, suc, ◌+◌, ◌<◌, ◌≤◌, Bool, true, false, cond, not, eqb, ltb, Some, None, Result, Ok, Err, Less, Greater, List, [], ◌∷◌}
use Rattle.std.proofs.Common.{length, get_or, refl, sym, ap, ◌∙◌, arith}
use borrow.Author.Tests.{le-ltb, ltb-false}
use Rattle.std.specs.List.{position, position_or_len, remove, slice_get}
use Rattle.std.specs.List.Sorted.{IsSearchInRange, IsBinarySearchResult, IsNonDecreasingBy, IsPartitionPoint}
use Rattle.std.specs.Ordering.{nat_cmp, ordering_index}
use Rattle.std.specs.Result.{result_ok}
use Rattle.std.proofs.lemmas.Bool.Decides.{nat_tests}
use Rattle.std.proofs.lemmas.Cmp.{ranked}
use Rattle.std.proofs.lemmas.List.Folds.{find_at}
use Rattle.std.proofs.lemmas.List.Quantifiers.{position-Some}
use Rattle.std.proofs.lemmas.List.Sums.{position_or_len_is}
use Rattle.std.proofs.lemmas.Option.{slice_get_past, slice_get_read}
use Rattle.switch_net.specs.declared.flight.Flight.{Flight}
use Rattle.switch_net.specs.Net.{AreNumbered, find_flight, without}
use Rattle.switch_net.proofs.Nets.{past-none, without-none}

-- no number is below the least one, and each is below those after it
least_at : (least bound i : ℕ) (fs : List Flight) (d : Flight) → AreNumbered least fs bound → i < length fs → least ≤ (get_or fs i d).message.id
least_at least bound i [] d h l = absurd (omega arith)
least_at least bound zero (f ∷ fs) d h l = h.0
least_at least bound (suc i) (f ∷ fs) d h l =
    let m : f.message.id + 1 ≤ (get_or fs i d).message.id = least_at (f.message.id + 1) bound i fs d h.1 (omega arith) in omega (arith, h.0)

numbers_rise : (least bound i j : ℕ) (fs : List Flight) (d : Flight) → AreNumbered least fs bound → i < j → j < length fs →
    (get_or fs i d).message.id < (get_or fs j d).message.id
numbers_rise least bound i j [] d h k l = absurd (omega arith)
numbers_rise least bound i zero (f ∷ fs) d h k l = absurd (omega arith)
numbers_rise least bound zero (suc j) (f ∷ fs) d h k l = omega (arith, least_at (f.message.id + 1) bound j fs d h.1 (omega arith))
numbers_rise least bound (suc i) (suc j) (f ∷ fs) d h k l = numbers_rise (f.message.id + 1) bound i j fs d h.1 (omega arith) (omega arith)

-- so its comparisons with a number rise, as a binary search asks
comparisons_rise : (id least bound : ℕ) (fs : List Flight) → AreNumbered least fs bound →
    IsNonDecreasingBy (λ f. ordering_index (nat_cmp f.message.id id)) fs
comparisons_rise id least bound fs h i j d le l =
    let r : (get_or fs i d).message.id ≤ (get_or fs j d).message.id =
    grind (arith, numbers_rise least bound i j fs d h, λ (same : i ≡ j). ap (λ k. (get_or fs k d).message.id) same) in
    grind (arith, nat_tests)

-- the first place at which a test passes
place_step : (p : Flight → Bool) (fs : List Flight) (i : ℕ) (b : Bool) → position_or_len p fs ≡ i → ltb i (length fs) ≡ b →
    cond b (Some i) None ≡ position p fs
place_step p fs i b e l = sym (ap (λ k. cond (ltb k (length fs)) (Some k) None) e ∙ ap (λ t. cond t (Some i) None) l)

-- a number between which and a message's a comparison told them apart
differs : (id : ℕ) (f : Flight) (less : Bool) → nat_cmp f.message.id id ≡ cond less Less Greater → eqb f.message.id id ≡ false
differs id f true e = let l : f.message.id < id = ranked _ id _ (sym e) in grind (arith, nat_tests)
differs id f false e = let l : id < f.message.id = ranked _ id _ (sym e) in grind (arith, nat_tests)

apart : (id i : ℕ) (fs : List Flight) (k : ℕ) (d : Flight) →
    IsPartitionPoint (λ f. nat_cmp f.message.id id ≡ Less) (λ f. nat_cmp f.message.id id ≡ Greater) fs i → k < length fs →
    eqb (get_or fs k d).message.id id ≡ false
apart id i fs k d h l = go (ltb k i) refl
  where
    go : (b : Bool) → ltb k i ≡ b → eqb (get_or fs k d).message.id id ≡ false
    go true e = differs id (get_or fs k d) true (h.0 k d (omega arith) (grind (arith, nat_tests)))
    go false e = differs id (get_or fs k d) false (h.1 k d (ltb-false k i e) l)

-- a binary search ends at the number's place, or finds that there is none
searched : (id least bound : ℕ) (fs : List Flight) (d : Flight) (r : Result ℕ ℕ) → AreNumbered least fs bound →
    IsSearchInRange r (length fs) → IsBinarySearchResult (λ f. nat_cmp f.message.id id) fs r →
    result_ok r ≡ position (λ f. eqb f.message.id id) fs
searched id least bound fs d (Ok i) h l equal =
    let e : (get_or fs i d).message.id ≡ id = ranked _ id _ (sym (equal d)) in
    place_step (λ f. eqb f.message.id id) fs i true
    (position_or_len_is (λ f. eqb f.message.id id) fs i d (omega arith)
    (λ k m. let n = numbers_rise least bound k i fs d h m l in grind (arith, nat_tests)) (λ m. grind (arith, nat_tests)))
    (grind (arith, nat_tests))
searched id least bound fs d (Err i) h l parted =
    place_step (λ f. eqb f.message.id id) fs (length fs) false
    (position_or_len_is (λ f. eqb f.message.id id) fs (length fs) d (omega arith)
    (λ k m. apart id i fs k d (parted (comparisons_rise id least bound fs h)) m) (λ m. absurd (omega arith)))
    (le-ltb (length fs) (length fs) (omega arith))

pub position-searched : (id least bound : ℕ) (fs : List Flight) (r : Result ℕ ℕ) → AreNumbered least fs bound →
    IsSearchInRange r (length fs) → IsBinarySearchResult (λ f. nat_cmp f.message.id id) fs r →
    result_ok r ≡ position (λ f. eqb f.message.id id) fs
position-searched id least bound [] (Ok i) h l found = absurd (omega arith)
position-searched id least bound [] (Err i) h l found = refl
position-searched id least bound (f ∷ fs) r h l found = searched id least bound (f ∷ fs) f r h l found

-- what is found at a place
pub find-at_place : (id i : ℕ) (fs : List Flight) (f : Flight) → position (λ g. eqb g.message.id id) fs ≡ Some i → f ≡ get_or fs i f →
    find_flight fs id ≡ Some f
find-at_place id i fs f e g =
    let p = position-Some (λ g. eqb g.message.id id) fs i f e in
    find_at (λ g. eqb g.message.id id) fs
    ∙ ap (slice_get fs) (position_or_len_is (λ g. eqb g.message.id id) fs i f (omega (arith, p.0)) p.2 (λ m. p.1))
    ∙ slice_get_read fs (length fs) i f refl p.0 g

pub find-no_place : (id : ℕ) (fs : List Flight) → position (λ f. eqb f.message.id id) fs ≡ None → find_flight fs id ≡ None
find-no_place id fs e =
    find_at (λ f. eqb f.message.id id) fs ∙ slice_get_past fs (position_or_len (λ f. eqb f.message.id id) fs) (past-none (λ f. eqb f.message.id id) fs e)

none_below : (id least bound : ℕ) (fs : List Flight) → AreNumbered least fs bound → id < least → find_flight fs id ≡ None
none_below id least bound [] h l = refl
none_below id least bound (f ∷ fs) h l =
    let e : eqb f.message.id id ≡ false = grind (arith, nat_tests, h.0) in
    ap (λ b. cond b (Some f) (find_flight fs id)) e ∙ none_below id (f.message.id + 1) bound fs h.1 (omega (arith, h.0))

-- those without the number are those around its place
without_at : (id least bound i : ℕ) (fs : List Flight) (d : Flight) → AreNumbered least fs bound → i < length fs → (get_or fs i d).message.id ≡ id →
    without fs id ≡ remove fs i
without_at id least bound i [] d h l e = absurd (omega arith)
without_at id least bound zero (f ∷ fs) d h l e =
    let s : eqb f.message.id id ≡ true = grind (arith, nat_tests) in
    ap (λ b. cond (not b) (f ∷ without fs id) (without fs id)) s
    ∙ without-none id fs (none_below id (f.message.id + 1) bound fs h.1 (omega arith))
without_at id least bound (suc i) (f ∷ fs) d h l e =
    let m : f.message.id + 1 ≤ (get_or fs i d).message.id = least_at (f.message.id + 1) bound i fs d h.1 (omega arith) in
    let s : eqb f.message.id id ≡ false = grind (arith, nat_tests) in
    ap (λ b. cond (not b) (f ∷ without fs id) (without fs id)) s
    ∙ ap (λ gs. f ∷ gs) (without_at id (f.message.id + 1) bound i fs d h.1 (omega arith) e)

pub without-at_place : (id least bound i : ℕ) (fs : List Flight) (d : Flight) → AreNumbered least fs bound →
    position (λ f. eqb f.message.id id) fs ≡ Some i → without fs id ≡ remove fs i
without-at_place id least bound i fs d h e =
    let p = position-Some (λ f. eqb f.message.id id) fs i d e in
    let s : (get_or fs i d).message.id ≡ id = grind (arith, nat_tests, p.1) in
    without_at id least bound i fs d h p.0 s
