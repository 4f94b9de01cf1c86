use Rattle.snap_board.proofs.Seen.{looks}
use Rattle.snap_board.proofs.watcher.read.Goals as goal

pub enter_as-requires : goal.enter_as-requires
enter_as-requires c x = looks _ _ x
