-- The places that were touched since the last recovery: a mark for each place, and the list of the marked ones.
use Rattle.std.specs.Prelude.{◌≡◌, ℕ, ◌<◌, Bool, true, false, ◌||◌, nat_eq, List, [], ◌∷◌, length, slice_index_or, count_by}
use Rattle.std.specs.List.{All}

-- whether a place is marked; a look-up past the end finds no mark
abbrev pub is_marked : List Bool → ℕ → Bool
is_marked marks place = slice_index_or marks place false

-- whether a list of places has this one
abbrev pub is_listed : List ℕ → ℕ → Bool
is_listed [] place = false
is_listed (first ∷ places) place = nat_eq first place || is_listed places place

-- the list has the marked places, each of them once: it has each, and no more than there are marks
pub record IsListOf (marks : List Bool) (places : List ℕ) : Type 0 where
  pub inside : All (λ place. place < length marks) places
  pub all : (place : ℕ) → is_marked marks place ≡ true → is_listed places place ≡ true
  pub once : length places ≡ count_by (λ mark. mark) marks
