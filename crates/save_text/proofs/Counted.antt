-- The blocks that a node owns in a set are counted one by one.
use Rattle.std.proofs.Common.{◌≡◌, ℕ, zero, suc, ◌+◌, ◌%◌, ◌<◌, Bool, true, false, cond, List, [], ◌∷◌, ◌++◌, length, take, drop, get_or, refl, sym, ap, ◌∙◌, add-one, arith}
use Rattle.std.proofs.Common.{length-append, length-set, set, ◌≢◌, inl, inr}
use Rattle.std.proofs.lemmas.Bool.{cases_eq}
use Rattle.std.proofs.lemmas.Bool.Decides.{nat_tests}
use Rattle.std.proofs.lemmas.Grind.{common_steps}
use Rattle.std.specs.Prelude.{◌&&◌, nat_eq, nat_le, replicate, Option, Some}
use Rattle.std.specs.List.{filter, range_with_len}
use Rattle.std.proofs.Math.Seq.{drop-cons}
use Rattle.std.proofs.lemmas.List.{take_more, get_or-replicate, length-replicate}
use Rattle.std.proofs.lemmas.List.Elements.{filter-append}
use Rattle.sn_base.specs.declared.config.Config.{Config}
use Rattle.sn_saved.specs.Saved.{owned_in, full_from}

one_kept : {A : Type 0} (b : Bool) (x : A) → length (cond b (x ∷ []) []) ≡ cond b 1 0
one_kept true x = refl
one_kept false x = refl

-- whether an owner is of this node and set
abbrev pub is_in : ℕ → ℕ → ℕ → ℕ × ℕ → Bool
is_in sets node set owner = nat_eq owner.1 node && nat_eq (owner.0 % sets) set

module _ (owners : List (ℕ × ℕ)) (place : ℕ) (d : ℕ × ℕ) (l : place < length owners) where
  pub owned-more : (sets node set : ℕ) → owned_in (take (place + 1) owners) sets node set
      ≡ owned_in (take place owners) sets node set + cond (is_in sets node set (get_or owners place d)) 1 0
  owned-more sets node set =
      ap (λ (xs : List (ℕ × ℕ)). owned_in xs sets node set) (take_more owners place d l)
      ∙ (ap length (filter-append (is_in sets node set) (take place owners) (get_or owners place d ∷ []))
      ∙ (length-append (filter (is_in sets node set) (take place owners)) (filter (is_in sets node set) (get_or owners place d ∷ []))
      ∙ ap (λ (k : ℕ). owned_in (take place owners) sets node set + k) (one_kept (is_in sets node set (get_or owners place d)) (get_or owners place d))))

  abbrev is_full : Config → Bool
  is_full config =
      nat_le config.ways (owned_in (take place owners) config.sets (get_or owners place d).1 ((get_or owners place d).0 % config.sets))

  full_here : (config : Config) (rest : Option ℕ) (b : Bool) → is_full config ≡ b → cond (is_full config) (Some place) rest ≡ cond b (Some place) rest
  full_here config rest b e = ap (λ (t : Bool). cond t (Some place) rest) e

  pub full-found : (config : Config) → is_full config ≡ true → full_from config (take place owners) place (drop place owners) ≡ Some place
  full-found config e =
      ap (full_from config (take place owners) place) (drop-cons owners place d l)
      ∙ full_here config (full_from config (take place owners ++ get_or owners place d ∷ []) (place + 1) (drop (suc place) owners)) true e

  pub full-later : (config : Config) → is_full config ≡ false →
      full_from config (take (place + 1) owners) (place + 1) (drop (place + 1) owners) ≡ full_from config (take place owners) place (drop place owners)
  full-later config e =
      sym (ap (full_from config (take place owners) place) (drop-cons owners place d l)
      ∙ (full_here config (full_from config (take place owners ++ get_or owners place d ∷ []) (place + 1) (drop (suc place) owners)) false e
      ∙ (ap (λ (xs : List (ℕ × ℕ)). full_from config xs (place + 1) (drop (suc place) owners)) (sym (take_more owners place d l))
      ∙ ap (λ (k : ℕ). full_from config (take (place + 1) owners) (place + 1) (drop k owners)) (sym (add-one place)))))

-- counts of nodes and sets

abbrev pub count_at : List (List ℕ) → ℕ → ℕ → ℕ
count_at taken n s = get_or (get_or taken n []) s 0

module _ (taken : List (List ℕ)) (node s v : ℕ) (ln : node < length taken) (ls : s < length (get_or taken node [])) where
  abbrev pub counted : List (List ℕ)
  counted = set taken node (set (get_or taken node []) s v)

  row_here : get_or counted node [] ≡ set (get_or taken node []) s v
  row_here = grind (arith, common_steps)

  row_there : (n : ℕ) → n ≢ node → get_or counted n [] ≡ get_or taken n []
  row_there n d = grind (arith, common_steps)

  pub counted-here : count_at counted node s ≡ v
  counted-here = ap (λ (row : List ℕ). get_or row s 0) row_here ∙ written (get_or taken node []) ls
    where
      written : (row : List ℕ) → s < length row → get_or (set row s v) s 0 ≡ v
      written row l = grind (arith, common_steps)

  pub counted-beside : (t : ℕ) → t ≢ s → count_at counted node t ≡ count_at taken node t
  counted-beside t d = ap (λ (row : List ℕ). get_or row t 0) row_here ∙ kept (get_or taken node [])
    where
      kept : (row : List ℕ) → get_or (set row s v) t 0 ≡ get_or row t 0
      kept row = grind (arith, common_steps)

  pub counted-there : (n t : ℕ) → n ≢ node → count_at counted n t ≡ count_at taken n t
  counted-there n t d = ap (λ (row : List ℕ). get_or row t 0) (row_there n d)

  pub counted-rows : (n : ℕ) → length (get_or counted n []) ≡ length (get_or taken n [])
  counted-rows n = elim (cases_eq n node) [
    | inl e ↦ rw e (ap length row_here ∙ length-set (get_or taken node []) s v)
    | inr d ↦ ap length (row_there n d)
  ]

  pub counted-long : length counted ≡ length taken
  counted-long = length-set taken node (set (get_or taken node []) s v)

is_in_here : (sets node s : ℕ) (o : ℕ × ℕ) → o.1 ≡ node → o.0 % sets ≡ s → is_in sets node s o ≡ true
is_in_here sets node s o e f = grind (arith, nat_tests)

is_in_other : (sets node s : ℕ) (o : ℕ × ℕ) → (o.1 ≡ node → o.0 % sets ≢ s) → is_in sets node s o ≡ false
is_in_other sets node s o d = grind (arith, nat_tests)

-- one owner more is counted
module _ (owners : List (ℕ × ℕ)) (place sets : ℕ) (d : ℕ × ℕ) (l : place < length owners) (taken : List (List ℕ)) (node s : ℕ)
    (en : node ≡ (get_or owners place d).1) (es : s ≡ (get_or owners place d).0 % sets) (ln : node < length taken)
    (ls : s < length (get_or taken node []))
    (h : (n t : ℕ) → n < 16 → t < 256 → count_at taken n t ≡ owned_in (take place owners) sets n t) where
  more : (n t : ℕ) (b : Bool) → is_in sets n t (get_or owners place d) ≡ b →
      owned_in (take (place + 1) owners) sets n t ≡ owned_in (take place owners) sets n t + cond b 1 0
  more n t b e =
      owned-more owners place d l sets n t ∙ ap (λ (q : Bool). owned_in (take place owners) sets n t + cond q 1 0) e

  pub counts-more : (n t : ℕ) → n < 16 → t < 256 →
      count_at (set taken node (set (get_or taken node []) s (count_at taken node s + 1))) n t ≡ owned_in (take (place + 1) owners) sets n t
  counts-more n t nl tl = elim (cases_eq n node) [
    | inl e ↦ elim (cases_eq t s) [
      | inl f ↦ rw (e, f)
          (counted-here taken node s (count_at taken node s + 1) ln ls
          ∙ (let i : node < 16 = omega (arith, e, nl) in let j : s < 256 = omega (arith, f, tl) in
          let p = h node s i j in let q = more node s true (is_in_here sets node s (get_or owners place d) (sym en) (sym es)) in omega (arith, p, q)))
      | inr g ↦ rw e
          (counted-beside taken node s (count_at taken node s + 1) ln ls t g
          ∙ (let i : node < 16 = omega (arith, e, nl) in
          let p = h node t i tl in
          let q = more node t false (is_in_other sets node t (get_or owners place d) (λ k m. g (sym m ∙ sym es))) in omega (arith, p, q)))
    ]
    | inr g ↦
        counted-there taken node s (count_at taken node s + 1) ln ls n t g
        ∙ (let p = h n t nl tl in
        let q = more n t false (is_in_other sets n t (get_or owners place d) (λ k m. g (sym k ∙ sym en))) in omega (arith, p, q))
  ]

-- none is counted at first

abbrev pub no_row : List ℕ
no_row = replicate 256 0

row_none : (n : ℕ) → n < 16 → get_or (replicate 16 no_row) n [] ≡ no_row
row_none n l = get_or-replicate 16 n no_row [] l

none_in_row : (s : ℕ) → s < 256 → ◌≡◌ {A = ℕ} (get_or no_row s 0) 0
none_in_row s l = get_or-replicate 256 s 0 0 l

pub none-counted : (n s : ℕ) → n < 16 → s < 256 → count_at (replicate 16 no_row) n s ≡ 0
none-counted n s nl sl = ap (λ (row : List ℕ). get_or row s 0) (row_none n nl) ∙ none_in_row s sl

pub none-long : length (replicate 16 no_row) ≡ 16
none-long = length-replicate 16 no_row

row_long : ◌≡◌ {A = ℕ} (length no_row) 256
row_long = let zero_count : ℕ = 0 in length-replicate 256 zero_count

pub none-rows : (n : ℕ) → n < 16 → length (get_or (replicate 16 no_row) n []) ≡ 256
none-rows n l = ap length (row_none n l) ∙ row_long

-- a range with one number more
pub range-more : (a n : ℕ) → range_with_len a (suc n) ≡ range_with_len a n ++ (a + n) ∷ []
range-more a zero = let e : a ≡ a + 0 = omega arith in ap (λ (m : ℕ). m ∷ []) e
range-more a (suc n) =
    let e : a + 1 + n ≡ a + suc n = omega arith in
    ap (λ (xs : List ℕ). a ∷ xs) (range-more (a + 1) n ∙ ap (λ (m : ℕ). range_with_len (a + 1) n ++ m ∷ []) e)

pub counted-more : (test : ℕ → Bool) (n : ℕ) →
    length (filter test (range_with_len 0 (n + 1))) ≡ length (filter test (range_with_len 0 n)) + cond (test n) 1 0
counted-more test n =
    let e : 0 + n ≡ n = omega arith in
    ap (λ (k : ℕ). length (filter test (range_with_len 0 k))) (add-one n)
    ∙ (ap (λ (xs : List ℕ). length (filter test xs)) (range-more 0 n ∙ ap (λ (m : ℕ). range_with_len 0 n ++ m ∷ []) e)
    ∙ (ap length (filter-append test (range_with_len 0 n) (n ∷ []))
    ∙ (length-append (filter test (range_with_len 0 n)) (filter test (n ∷ []))
    ∙ ap (λ (k : ℕ). length (filter test (range_with_len 0 n)) + k) (one_kept (test n) n))))

pub counted-one : (test : ℕ → Bool) (n : ℕ) → test n ≡ true →
    length (filter test (range_with_len 0 (n + 1))) ≡ length (filter test (range_with_len 0 n)) + 1
counted-one test n e = counted-more test n ∙ ap (λ (b : Bool). length (filter test (range_with_len 0 n)) + cond b 1 0) e

pub counted-none : (test : ℕ → Bool) (n : ℕ) → test n ≡ false →
    length (filter test (range_with_len 0 (n + 1))) ≡ length (filter test (range_with_len 0 n)) + 0
counted-none test n e = counted-more test n ∙ ap (λ (b : Bool). length (filter test (range_with_len 0 n)) + cond b 1 0) e
