-- The list of all values, and that of a new table.
use Rattle.std.proofs.Common.{◌≡◌, ℕ, zero, suc, ◌+◌, ◌*◌, ◌/◌, ◌%◌, ◌<◌, ◌≤◌, List, [], ◌∷◌, ◌++◌, length, get_or, replicate}
use Rattle.std.proofs.Common.{refl, ap, ◌∙◌, arith, add-one, ⊎_elim}
use Rattle.std.specs.Prelude.{nat_lt, count_by}
use Rattle.std.proofs.lemmas.Bool.{cases_lt}
use Rattle.std.proofs.lemmas.List.{length_push, get_or_append_left, get_or_push, length-replicate, replicate_more}
use Rattle.sparse_table.specs.Pages.{page_size, page_at, value_at, values_below, IsTable}

module _ {X : Type 0} (usual : X) (pages : List ℕ) (values : List X) where
  pub length-below : (n : ℕ) → length (values_below usual pages values n) ≡ n
  length-below zero = refl
  length-below (suc n) =
      length_push (values_below usual pages values n) (value_at usual pages values n) ∙ ap (λ k. k + 1) (length-below n) ∙ add-one n

  pub at-below : (n place : ℕ) (d : X) → place < n → get_or (values_below usual pages values n) place d ≡ value_at usual pages values place
  at-below zero place d l = absurd (omega arith)
  at-below (suc n) place d l =
      ⊎_elim
      (λ (h : place < n).
      get_or_append_left (values_below usual pages values n) (value_at usual pages values n ∷ []) d place (omega (arith, length-below n))
      ∙ at-below n place d h)
      (λ (h : n ≤ place).
      let e : n ≡ place = omega arith in
      get_or_push (values_below usual pages values n) (value_at usual pages values n) d place (length-below n ∙ e)
      ∙ ap (value_at usual pages values) e)
      (cases_lt place n)

  -- a place of the table is one of its places, and has a page
  pub place-inside : (now : List X) (n place : ℕ) → values_below usual pages values n ≡ now → place < length now → place < n
  place-inside now n place e l = omega (arith, length-below n, ap length e, l)

  pub page-inside : (now : List X) (n place : ℕ) → values_below usual pages values n ≡ now → place < length now →
      n ≤ page_size * length pages → place / page_size < length pages
  page-inside now n place e l m = omega (arith, place-inside now n place e l, m)

  -- the same values at each place make the same list
  pub same-below : (new_pages : List ℕ) (new_values : List X) →
      ((place : ℕ) → value_at usual new_pages new_values place ≡ value_at usual pages values place) → (n : ℕ) →
      values_below usual new_pages new_values n ≡ values_below usual pages values n
  same-below new_pages new_values h zero = refl
  same-below new_pages new_values h (suc n) =
      ap (λ (xs : List X). xs ++ value_at usual new_pages new_values n ∷ []) (same-below new_pages new_values h n)
      ∙ ap (λ (x : X). values_below usual pages values n ++ x ∷ []) (h n)

-- a page of usual values
pub usual_at : {X : Type 0} (usual : X) (n i : ℕ) → get_or (replicate n usual) i usual ≡ usual
usual_at usual zero i = refl
usual_at usual (suc n) zero = refl
usual_at usual (suc n) (suc i) = usual_at usual n i

none_at : (n p : ℕ) → page_at (replicate n 0) p ≡ 0
none_at n p = usual_at {X = ℕ} 0 n p

none_count : (n : ℕ) → count_by (λ (page : ℕ). nat_lt 0 page) (replicate n 0) ≡ 0
none_count zero = refl
none_count (suc n) = none_count n

-- a new table
pub usual-below : {X : Type 0} (usual : X) (pages : List ℕ) (n : ℕ) →
    values_below usual pages (replicate page_size usual) n ≡ replicate n usual
usual-below usual pages zero = refl
usual-below usual pages (suc n) =
    ap (λ xs. xs ++ value_at usual pages (replicate page_size usual) n ∷ []) (usual-below usual pages n)
    ∙ ap (λ x. replicate n usual ++ x ∷ []) (usual_at usual page_size (64 * page_at pages (n / 64) + n % 64))
    ∙ replicate_more n usual ∙ ap (λ k. replicate k usual) (add-one n)

pub table-first : {X : Type 0} (usual : X) (n : ℕ) → IsTable usual (replicate n 0) (replicate page_size usual)
table-first usual n = record {
  first = λ i l. usual_at usual page_size i;
  inside = λ p. omega (arith, none_at n p, length-replicate page_size usual);
  apart = λ p q o e. none_at n p;
  count = omega (arith, none_count n, length-replicate page_size usual);
}
