-- The rule under which the two copies are read and changed.
use Rattle.std.specs.Prelude.{◌≡◌, ℕ, true, false, List, []}
use mathlib.Core.Option.{some}
use lib.ListN.{get_elem?}
use Rattle.atomic_table.specs.Seated.{TableId}
use Rattle.sn_consistency.specs.Committed.{Begins}
use Rattle.snap_board.specs.declared.sight.Sight.{Sight}
use Rattle.snap_board.specs.Keeps.{newcomer}
use Rattle.snap_board.specs.Posts.{ShownData}

-- no table
abbrev pub nowhere : TableId
nowhere = record { words = 0; slots = 0; views_name = 0; atom = 0; block = 0; offset = 0; slot_names = [] }

-- nothing was looked at yet
abbrev pub unknown : Sight
unknown = record { known = false; perch = record { table_id = nowhere; view = newcomer } }

-- what is shown is of the board that each side knows, and the list that it ends begins with all that this side saw shown
pub record Goes (x : ShownData) (k : Sight) : Type 0 where
  pub board : k.known ≡ true → x.perch.table_id ≡ k.perch.table_id
  pub seen : k.known ≡ true → Begins k.perch.view.seen x.perch.view.seen

abbrev pub Shows : ShownData → List Sight → Type 0
Shows x sides = (side : ℕ) (k : Sight) → get_elem? sides side ≡ some k → Goes x k

-- a look and a publishing: what is shown then was seen
pub record Looked (before : Sight) (was is : ShownData) (after : Sight) : Type 0 where
  pub agrees : before.known ≡ true → Goes is before
  pub known : after.known ≡ true
  pub perch : after.perch ≡ is.perch

-- what is told is all that one knows
abbrev pub sight_after : Sight → Sight → Sight
sight_after k note = note
