-- The roll: the list of all snapshots that were published, of which each who has a note of it knows a beginning. This is the rule
-- under which the notes are changed.
use Rattle.std.specs.Prelude.{◌≡◌, ◌⊎◌, ℕ, true, false, List, [], ◌∷◌, ◌++◌}
use mathlib.Core.Option.{some}
use lib.ListN.{get_elem?}
use Rattle.atomic_table.specs.Table.{Me, Step}
use Rattle.sn_consistency.specs.Committed.{Begins}
use Rattle.snap_board.specs.Snap.{SnapData}
use Rattle.snap_board.specs.Fronts.{Rises}
use Rattle.snap_board.specs.declared.roll.Knowledge.{Knowledge}

-- nothing was seen yet
abbrev pub newcomer : Knowledge
newcomer = record { seen = []; heard = []; leads = false }

-- the one that publishes, before anything was
abbrev pub publisher : Knowledge
publisher = record { seen = []; heard = []; leads = true }

-- what was seen and what was heard are beginnings of the published list, and all of it was seen where one leads
pub record Follows (published : List SnapData) (k : Knowledge) : Type 0 where
  pub seen : Begins k.seen published
  pub heard : Begins k.heard published
  pub leads : k.leads ≡ true → k.seen ≡ published

-- there is a published list: its points strictly grow, what each note knows is a beginning of it, and one leads at most
pub record Keeps (notes : List Knowledge) : Type 0 where
  pub published : List SnapData
  pub rises : Rises published
  pub each : (note : ℕ) (k : Knowledge) → get_elem? notes note ≡ some k → Follows published k
  pub one : (a b : ℕ) (k l : Knowledge) → get_elem? notes a ≡ some k → get_elem? notes b ≡ some l → k.leads ≡ true → l.leads ≡ true → a ≡ b

-- a publishing: the snapshot is added to what was seen
abbrev pub added : Step SnapData → Me SnapData Knowledge → ℕ → Me SnapData Knowledge → Type 0
added step before found after = (after.1 ≡ before.1) × (after.0.leads ≡ before.0.leads)
    × ((snap : SnapData) → step.said ≡ some snap → after.0.seen ≡ before.0.seen ++ snap ∷ [])

-- what was heard is seen: the longer of what was seen and what was heard, and both are beginnings of it
pub record Heard (before after : Knowledge) : Type 0 where
  pub goes_on : Begins before.seen after.seen
  pub heard : Begins before.heard after.seen
  pub rises : Rises after.seen
  pub longer : (after.seen ≡ before.seen) ⊎ (after.seen ≡ before.heard)
  pub leads : after.leads ≡ before.leads

abbrev pub hears : Step SnapData → Me SnapData Knowledge → ℕ → Me SnapData Knowledge → Type 0
hears step before found after = (after.1 ≡ before.1) × Heard before.0 after.0

-- what is told: all that was seen
abbrev pub knowledge_told : Knowledge → Knowledge
knowledge_told k = record { seen = k.seen; heard = []; leads = false }

-- one who is told it has heard that
abbrev pub knowledge_after : Knowledge → Knowledge → Knowledge
knowledge_after k note = record { seen = k.seen; heard = note.seen; leads = k.leads }
