-- Values in pages: each page of places has a page of values of its own, or reads the first one, which has the usual value alone.
use Rattle.std.specs.Prelude.{◌≡◌, ℕ, zero, suc, ◌+◌, ◌*◌, ◌/◌, ◌%◌, ◌<◌, ◌≤◌, nat_lt, List, [], ◌∷◌, ◌++◌, length, slice_index_or, count_by}
use Rattle.std.proofs.Common.{◌≢◌}

-- how many places have their values in one page
abbrev pub page_size : ℕ
page_size = 64

-- the number of the page of values that these places have: 0 where they have none of their own
abbrev pub page_at : List ℕ → ℕ → ℕ
page_at pages places = slice_index_or pages places 0

-- where the value of a place stands
abbrev pub position : List ℕ → ℕ → ℕ
position pages place = page_size * page_at pages (place / page_size) + place % page_size

abbrev pub value_at : {X : Type 0} → X → List ℕ → List X → ℕ → X
value_at usual pages values place = slice_index_or values (position pages place) usual

-- the values of the first places
abbrev pub values_below : {X : Type 0} → X → List ℕ → List X → ℕ → List X
values_below usual pages values zero = []
values_below usual pages values (suc place) = values_below usual pages values place ++ value_at usual pages values place ∷ []

-- the first page of values has the usual one alone, each page number has a page, no other page is that of two, and there is a page
-- for each that has its own
pub record IsTable {X : Type 0} (usual : X) (pages : List ℕ) (values : List X) : Type 0 where
  pub first : (i : ℕ) → i < page_size → slice_index_or values i usual ≡ usual
  pub inside : (p : ℕ) → page_size * page_at pages p + page_size ≤ length values
  pub apart : (p q : ℕ) → p ≢ q → page_at pages p ≡ page_at pages q → page_at pages p ≡ 0
  pub count : length values ≡ page_size * (count_by (λ page. nat_lt 0 page) pages + 1)
