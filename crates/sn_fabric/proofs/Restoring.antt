-- A recovery over the nodes: one node more is put back.
use Rattle.std.proofs.Common.{◌≡◌, ◌≢◌, ℕ, ◌+◌, ◌-◌, ◌<◌, ◌≤◌, ◌++◌, List, [], ◌∷◌, length, get_or, set, map, take, drop, refl, sym, ap}
use Rattle.std.proofs.Common.{◌∙◌, subst, arith, ⊎_elim, get_or-set_same, get_or-set_other}
use Rattle.std.proofs.lemmas.Bool.{cases_eq}
use Rattle.std.proofs.lemmas.List.{length-map, length-take-le, get_or-append_right, get_or-drop, get_or_default, get_or_read}
use Rattle.std.proofs.lemmas.List.Edits.{map_over_more}
use Rattle.home_directory.specs.Home.{HomeData}
use Rattle.sn_fabric.specs.declared.node.NodeUnit.{NodeUnit}
use Rattle.sn_fabric.specs.Parts.{no_unit, unit_at, no_home, home_at}
use Rattle.sn_fabric.specs.Recovery.{restored_unit, IsRestoredHome}

-- a whole vector that was written through a slice
take_first : {A : Type 0} (xs ys : List A) → take (length xs) (xs ++ ys) ≡ xs
take_first [] ys = refl
take_first (x ∷ xs) ys = ap (λ zs. x ∷ zs) (take_first xs ys)

pub written : {A : Type 0} (n : ℕ) (new old : List A) → n ≡ length new → take n (new ++ drop (length new) old) ≡ new
written n new old e = ap (λ (k : ℕ). take k (new ++ drop (length new) old)) e ∙ take_first new (drop (length new) old)

-- a node that wasn't put back yet
pub rest-read : (k : ℕ) (first now : List NodeUnit) (i : ℕ) (x : NodeUnit) → i < length first →
    now ≡ map (restored_unit k) (take i first) ++ drop i first → x ≡ get_or now i x → x ≡ unit_at first i
rest-read k first now i x l e r =
    let n : length (map (restored_unit k) (take i first)) ≡ i = length-map (take i first) (restored_unit k)
    ∙ length-take-le i first (omega arith) in
    let z : i + (i - i) ≡ i = omega arith in
    r
    ∙ ap (λ (units : List NodeUnit). get_or units i x) e
    ∙ get_or-append_right (map (restored_unit k) (take i first)) (drop i first) i i x n (omega arith)
    ∙ get_or-drop i first (i - i) x
    ∙ ap (λ (j : ℕ). get_or first j x) z
    ∙ get_or_default first i x no_unit l

pub units-more : (k : ℕ) (first now : List NodeUnit) (i : ℕ) (x y : NodeUnit) → i < length first →
    now ≡ map (restored_unit k) (take i first) ++ drop i first → x ≡ get_or now i x → y ≡ restored_unit k x →
    set now i y ≡ map (restored_unit k) (take (i + 1) first) ++ drop (i + 1) first
units-more k first now i x y l e r s = ap (set now i) s ∙ map_over_more (restored_unit k) first now i x l e r

module _ (k i : ℕ) (units : List NodeUnit) (first now : List HomeData) (x : NodeUnit) (home after : HomeData) (inside : i < length now) (unit : x ≡ unit_at units i) (read : home ≡ get_or now i home) (back : IsRestoredHome x.log.entries k home after) (rest : (n : ℕ) → i ≤ n → home_at now n ≡ home_at first n) where
  home-is : home ≡ home_at first i
  home-is = get_or_read now i home inside read no_home ∙ rest i (omega arith)

  here : IsRestoredHome (unit_at units i).log.entries k (home_at first i) (home_at (set now i after) i)
  here = subst (IsRestoredHome (unit_at units i).log.entries k (home_at first i)) (sym (get_or-set_same now i after no_home inside))
      (subst (λ (h : HomeData). IsRestoredHome (unit_at units i).log.entries k h after) home-is
      (subst (λ (s : NodeUnit). IsRestoredHome s.log.entries k home after) unit back))

  pub before-more : ((n : ℕ) → n < i → IsRestoredHome (unit_at units n).log.entries k (home_at first n) (home_at now n)) → (n : ℕ) →
      n < i + 1 →
      IsRestoredHome (unit_at units n).log.entries k (home_at first n) (home_at (set now i after) n)
  before-more before n l = ⊎_elim
      (λ (e : n ≡ i). subst (λ (j : ℕ). IsRestoredHome (unit_at units j).log.entries k (home_at first j) (home_at (set now i after) j))
      (sym e) here)
      (λ (ne : n ≢ i). subst (IsRestoredHome (unit_at units n).log.entries k (home_at first n))
      (sym (get_or-set_other now i n after no_home ne)) (before n (omega arith)))
      (cases_eq n i)

  pub after-more : (n : ℕ) → i + 1 ≤ n → home_at (set now i after) n ≡ home_at first n
  after-more n l = let ne : n ≢ i = omega arith in get_or-set_other now i n after no_home ne ∙ rest n (omega arith)
