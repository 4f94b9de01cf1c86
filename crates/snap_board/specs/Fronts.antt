-- Lists of snapshots: what was shown so far, or what of it a watcher has seen.
use Rattle.std.specs.Prelude.{◌≡◌, ◌<◌, List, [], ◌∷◌, ◌++◌, ⊤}
use Rattle.snap_board.specs.Snap.{SnapData}

-- the points strictly grow: each is below the next
abbrev pub Rises : List SnapData → Type 0
Rises [] = ⊤
Rises (s ∷ []) = ⊤
Rises (s ∷ t ∷ snaps) = (s.point < t.point) × Rises (t ∷ snaps)

-- a list whose last snapshot is this one
pub record EndsIn (snaps : List SnapData) (last : SnapData) : Type 0 where
  pub before : List SnapData
  pub is : snaps ≡ before ++ last ∷ []
