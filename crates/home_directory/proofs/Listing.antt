-- Entries of which those of a list are still to be cleared, and what stays cleared but for the marked places.
use Rattle.std.proofs.Common.{◌≡◌, ◌≢◌, ℕ, suc, ◌+◌, ◌<◌, ◌≤◌, Bool, true, false, List, [], ◌∷◌, length, get_or, set}
use Rattle.std.proofs.Common.{drop, refl, sym, ap, subst, ◌∙◌, arith, length-set, get_or-set_same, get_or-set_other}
use Rattle.std.specs.Prelude.{nat_eq, map, replicate}
use Rattle.std.proofs.lemmas.Bool.Decides.{nat_tests}
use Rattle.std.proofs.lemmas.List.{map-set, set-get_or, length-replicate, drop_more, drop_all}
use Rattle.sn_model.specs.Homes.{HomeEntry}
use Rattle.sn_model.specs.Fabric.{no_entry}
use Rattle.touched_places.specs.Touched.{is_marked, is_listed, IsListOf}
use Rattle.touched_places.proofs.Listing.{unlisted, unmarked-first}
use Rattle.home_directory.specs.Restored.{entry_without_sharers}
use Rattle.home_directory.specs.Touched.{IsCleared, AreCleared}
use Rattle.home_directory.proofs.Restored.{entry_by, cleared-at, length-cleared}

-- entries of which those of a list are still to be cleared
pub record AreClearing (was now : List HomeEntry) (rest : List ℕ) : Type 0 where
  pub whole : length now ≡ length was
  pub same : map entry_without_sharers now ≡ map entry_without_sharers was
  pub others : (place : ℕ) → is_listed rest place ≡ false → IsCleared (get_or now place no_entry)

pub clearing-first : (marks : List Bool) (places : List ℕ) (entries : List HomeEntry) → IsListOf marks places → AreCleared marks entries →
    AreClearing entries entries places
clearing-first marks places entries is h =
    record { whole = refl; same = refl; others = λ p k. h.others p ((unmarked-first marks places is).others p k) }

clears : (now : List HomeEntry) (place : ℕ) (x : HomeEntry) → x ≡ get_or now place no_entry →
    map entry_without_sharers (set now place (entry_without_sharers x)) ≡ map entry_without_sharers now
clears now place x e =
    map-set entry_without_sharers now place (entry_without_sharers x)
    ∙ sym (map-set entry_without_sharers now place x)
    ∙ ap (λ (y : HomeEntry). map entry_without_sharers (set now place y)) e
    ∙ ap (map entry_without_sharers) (set-get_or now place no_entry)

pub clearing-more : (was now : List HomeEntry) (places : List ℕ) (i place : ℕ) (x : HomeEntry) → i < length places →
    place ≡ get_or places i place → place < length now → x ≡ get_or now place no_entry →
    AreClearing was now (drop i places) → AreClearing was (set now place (entry_without_sharers x)) (drop (i + 1) places)
clearing-more was now places i place x l e m r h = record {
  whole = length-set now place (entry_without_sharers x) ∙ h.whole;
  same = clears now place x r ∙ h.same;
  others = λ p k. by_test p (nat_eq place p) refl k;
}
  where
    rest : drop i places ≡ place ∷ drop (i + 1) places
    rest = drop_more places i place l ∙ ap (λ (q : ℕ). q ∷ drop (i + 1) places) (sym e)

    by_test : (p : ℕ) (t : Bool) → nat_eq place p ≡ t → is_listed (drop (i + 1) places) p ≡ false →
        IsCleared (get_or (set now place (entry_without_sharers x)) p no_entry)
    by_test p true q k =
        let s : place ≡ p = grind (arith, nat_tests) in
        subst (λ (j : ℕ). IsCleared (get_or (set now place (entry_without_sharers x)) j no_entry)) s
        (subst IsCleared (sym (get_or-set_same now place (entry_without_sharers x) no_entry m)) refl)
    by_test p false q k =
        let n : p ≢ place = λ s. grind (arith, nat_tests) in
        subst IsCleared (sym (get_or-set_other now place p (entry_without_sharers x) no_entry n))
        (h.others p (ap (λ (ps : List ℕ). is_listed ps p) rest ∙ unlisted place p (drop (i + 1) places) q k))

cleared_all : (entries : List HomeEntry) → ((place : ℕ) → IsCleared (get_or entries place no_entry)) → map entry_without_sharers entries ≡ entries
cleared_all [] h = refl
cleared_all (entry ∷ entries) h =
    ap (λ (x : HomeEntry). x ∷ map entry_without_sharers entries) (h 0) ∙ ap (λ (xs : List HomeEntry). entry ∷ xs) (cleared_all entries (λ p. h (suc p)))

pub clearing-all : (was now : List HomeEntry) (places : List ℕ) (i : ℕ) → length places ≤ i → AreClearing was now (drop i places) →
    now ≡ map entry_without_sharers was
clearing-all was now places i l h =
    let none : drop i places ≡ [] = drop_all i places l in
    sym (cleared_all now (λ p. h.others p (ap (λ (ps : List ℕ). is_listed ps p) none))) ∙ h.same

-- what is cleared but for the marked places

-- another holder leaves an entry as cleared as it is
cleared-holder : (entry other : HomeEntry) → other.sharers ≡ entry.sharers → other.transaction ≡ entry.transaction → IsCleared entry →
    IsCleared other
cleared-holder entry other s t h =
    sym (entry_by other other.holder (entry_without_sharers entry).sharers (entry_without_sharers entry).transaction refl
    (s ∙ sym (ap (λ (x : HomeEntry). x.sharers) h)) (t ∙ sym (ap (λ (x : HomeEntry). x.transaction) h)))

pub cleared-put : (marks : List Bool) (entries : List HomeEntry) (place : ℕ) (other : HomeEntry) → place < length entries →
    other.sharers ≡ (get_or entries place no_entry).sharers → other.transaction ≡ (get_or entries place no_entry).transaction →
    AreCleared marks entries → AreCleared marks (set entries place other)
cleared-put marks entries place other l s t h =
    record { whole = h.whole ∙ sym (length-set entries place other); others = λ p k. by_test p (nat_eq place p) refl k }
  where
    by_test : (p : ℕ) (c : Bool) → nat_eq place p ≡ c → is_marked marks p ≡ false → IsCleared (get_or (set entries place other) p no_entry)
    by_test p true q k =
        let e : place ≡ p = grind (arith, nat_tests) in
        let m : is_marked marks place ≡ false = ap (is_marked marks) e ∙ k in
        subst (λ (j : ℕ). IsCleared (get_or (set entries place other) j no_entry)) e
        (subst IsCleared (sym (get_or-set_same entries place other no_entry l))
        (cleared-holder (get_or entries place no_entry) other s t (h.others place m)))
    by_test p false q k =
        let n : p ≢ place = λ e. grind (arith, nat_tests) in
        subst IsCleared (sym (get_or-set_other entries place p other no_entry n)) (h.others p k)

pub cleared-touched : (marks : List Bool) (entries : List HomeEntry) (place : ℕ) (other : HomeEntry) → place < length entries →
    AreCleared marks entries →
    AreCleared (set marks place true) (set entries place other)
cleared-touched marks entries place other l h = record {
  whole = length-set marks place true ∙ (h.whole ∙ sym (length-set entries place other));
  others = λ p k. by_test p (nat_eq place p) refl k;
}
  where
    by_test : (p : ℕ) (c : Bool) → nat_eq place p ≡ c → is_marked (set marks place true) p ≡ false →
        IsCleared (get_or (set entries place other) p no_entry)
    by_test p true q k =
        let e : place ≡ p = grind (arith, nat_tests) in
        let m : is_marked (set marks place true) place ≡ false = ap (is_marked (set marks place true)) e ∙ k in
        let n : is_marked (set marks place true) place ≡ true = get_or-set_same marks place true false (omega (arith, h.whole)) in
        absurd (grind arith)
    by_test p false q k =
        let n : p ≢ place = λ e. grind (arith, nat_tests) in
        subst IsCleared (sym (get_or-set_other entries place p other no_entry n))
        (h.others p (sym (get_or-set_other marks place p true false n) ∙ k))

pub cleared-begun : (marks : List Bool) (entries : List HomeEntry) → AreCleared marks entries →
    AreCleared (replicate (length marks) false) (map entry_without_sharers entries)
cleared-begun marks entries h = record {
  whole = length-replicate (length marks) false ∙ (h.whole ∙ sym (length-cleared entries));
  others = λ p k. subst IsCleared (sym (cleared-at entries p)) refl;
}
