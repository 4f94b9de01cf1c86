-- Which lines a report has of what was published.
use Rattle.std.specs.Prelude.{◌≡◌, ℕ, ◌-◌, ◌<◌, ◌≤◌, List, [], ◌∷◌, ◌++◌, length}
use Rattle.std.specs.List.{All, AllPairs, AllWithin, HoldsAt}
use Rattle.monitor_run.specs.declared.marks.Mark.{Mark}
use Rattle.monitor_run.specs.Seen.{IsSomeOf}

-- each point is below those after it
abbrev pub Grow : List Mark → Type 0
Grow marks = AllPairs (λ m n. m.point < n.point) marks

-- a list whose last mark is this one
abbrev pub IsLast : List Mark → Mark → Type 0
IsLast marks m = (before : List Mark) × (marks ≡ before ++ m ∷ [])

-- a mark above the last of these, if there is one
abbrev pub IsLater : List Mark → Mark → Type 0
IsLater looks mark = 0 < length looks → HoldsAt (λ m. m.point < mark.point) looks (length looks - 1)

-- the first place from this one on whose point isn't below, or the end
pub record IsFirstFrom (looks : List Mark) (place point found : ℕ) : Type 0 where
  pub onward : place ≤ found
  pub below : AllWithin (λ m. m.point < point) looks place found
  pub there : found < length looks → HoldsAt (λ m. point ≤ m.point) looks found

-- some of what was published, above point 0, and the last, unless its point is 0
pub record AreTaken (seen published : List Mark) : Type 0 where
  pub from : IsSomeOf seen published
  pub above : All (λ m. 0 < m.point) seen
  pub last : (m : Mark) → IsLast published m → 0 < m.point → IsLast seen m
