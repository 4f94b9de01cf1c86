-- What can be saved, and what a call puts to a sink.
use Rattle.std.specs.Prelude.{◌≡◌, ℕ, ◌≤◌, Bool, List, [], length, if◌then◌else◌, Option, Result, Ok, Err}
use Rattle.sn_io.specs.Outside.{Rose, followed_by}
use Rattle.sn_io.specs.declared.outside.Failed.{Failed}
use Rattle.sink_pieces.specs.Pieces.{HasBeginning}
use Rattle.route_plan.specs.Distances.{is_dead}
use Rattle.sn_model.specs.Machine.{State}
use Rattle.sn_saved.specs.Saved.{most_saved, given_from}
use Rattle.save_text.specs.Text.{dead_line}

-- at most a million committed records, and as many bytes given
pub record IsSavable (s : State) : Type 0 where
  pub records : length s.committed ≤ most_saved
  pub bytes : length (given_from 0 s.processors) ≤ most_saved

-- all of a text was put, and no fault counted less; or the count rose, and a beginning was put
abbrev pub Puts : Option (List ℕ) → Option (List ℕ) → ℕ → ℕ → List ℕ → Result (Unit {0}) Failed → Type 0
Puts before behind was is text (Ok done) = (behind ≡ followed_by before text) × (was ≤ is)
Puts before behind was is text (Err failed) = HasBeginning text before behind × Rose was is × (was ≤ is)

-- the line of a switch, if it is dead
abbrev pub switch_lines : List Bool → ℕ → List ℕ
switch_lines dead switch = if is_dead dead switch then dead_line switch else []
