-- The committed part of the sorted list: the records of interval 0, then of interval 1, up to the recovery point less
-- one.
use Rattle.std.specs.Prelude.{◌≡◌, ℕ, if◌then◌else◌, List, [], ◌∷◌, ◌++◌, ◌==◌, nat_lt}
use Rattle.rv_core.specs.declared.step.Record.{Record}
use Rattle.sn_base.specs.Image.{ImageData}
use Rattle.sn_consistency.specs.Entries.{Entry}
use Rattle.sn_consistency.specs.Sorted.{below}
use Rattle.sn_consistency.specs.Shows.{records, outs}

abbrev pub records_committed : (ℕ → List Entry) → ℕ → List Record
records_committed f point = records (below f point)

-- its bytes put out
abbrev pub bytes_released : ImageData → (ℕ → List Entry) → ℕ → List ℕ
bytes_released image f point = outs image (below f point)

-- ys begins with xs
pub record Begins {A : Type 0} (xs ys : List A) : Type 0 where
  pub more : List A
  pub is : ys ≡ xs ++ more

-- a retirement: what retired, with the interval of its node at that moment
pub record Retirement (A : Type 0) : Type 0 where
  pub interval : ℕ
  pub item : A

-- what interval x has of a list of retirements, in their order
abbrev pub by_interval : {A : Type 0} → List (Retirement A) → ℕ → List A
by_interval [] x = []
by_interval (r ∷ rs) x = if x == r.interval then r.item ∷ by_interval rs x else by_interval rs x

-- what a recovery to k leaves of it
abbrev pub retirements_below : {A : Type 0} → List (Retirement A) → ℕ → List (Retirement A)
retirements_below [] k = []
retirements_below (r ∷ rs) k = if nat_lt r.interval k then r ∷ retirements_below rs k else retirements_below rs k
