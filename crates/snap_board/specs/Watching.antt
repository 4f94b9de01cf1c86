-- What contracts see of a board, of its receipts and of its watcher.
use Rattle.std.specs.Prelude.{List}
use Rattle.atomic_table.specs.Seated.{TableId}
use Rattle.snap_board.specs.Snap.{SnapData}

-- which board it is: what no other board shares with it
abbrev pub BoardId : Type 0
BoardId = TableId

-- all that was published, in order
pub record BoardData : Type 0 where
  pub board : BoardId
  pub published : List SnapData

-- the list that it names
pub record ReceiptData : Type 0 where
  pub board : BoardId
  pub list : List SnapData

-- a watcher's front: the snapshots of which it knows that they were published, up to the one that it saw last
pub record WatcherData : Type 0 where
  pub board : BoardId
  pub front : List SnapData
