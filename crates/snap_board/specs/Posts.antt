-- What is shown, and what is posted to be shown.
use Rattle.std.specs.Prelude.{◌≡◌, List, [], ◌∷◌, fold}
use Rattle.atomic_table.specs.Seated.{TableId}
use Rattle.atomic_table.specs.Perched.{Roost}
use Rattle.sn_consistency.specs.Committed.{Begins}
use Rattle.snap_board.specs.Snap.{SnapData}
use Rattle.snap_board.specs.declared.roll.Knowledge.{Knowledge}

-- a snapshot, and the place for a note that knows of it: of which roll it is, and what it knows
pub record ShownData : Type 0 where
  pub snap : SnapData
  pub perch : Roost Knowledge

-- the place beside what is shown after these posts: the last one's, or the one that is there
abbrev pub shown_after : Roost Knowledge → List ShownData → Roost Knowledge
shown_after perch posts = fold (λ (before : Roost Knowledge) (post : ShownData). post.perch) perch posts

-- these posts may be shown: it is the same roll's, and the list that is shown goes on
pub record MayShow (perch : Roost Knowledge) (posts : List ShownData) : Type 0 where
  pub board : (shown_after perch posts).table_id ≡ perch.table_id
  pub goes_on : Begins perch.view.seen (shown_after perch posts).view.seen

-- what is shown is of this roll, and a beginning of this list
pub record Shows (perch : Roost Knowledge) (roll : TableId) (list : List SnapData) : Type 0 where
  pub roll_is : perch.table_id ≡ roll
  pub begins : Begins perch.view.seen list

-- one post waits, of this roll, whose list begins with what is shown, and this list with that
pub record IsReady (perch : Roost Knowledge) (posts : List ShownData) (roll : TableId) (list : List SnapData) : Type 0 where
  pub post : ShownData
  pub one : posts ≡ post ∷ []
  pub shown : perch.table_id ≡ roll
  pub goes_on : Begins perch.view.seen post.perch.view.seen
  pub posted : Shows post.perch roll list
