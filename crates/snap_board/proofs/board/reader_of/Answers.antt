use Rattle.snap_board.proofs.Seen.{admits}
use Rattle.snap_board.proofs.board.reader_of.Goals as goal

pub reader-requires : goal.reader-requires
reader-requires g c = admits
