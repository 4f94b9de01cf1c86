use Rattle.snap_board.proofs.Kept.{starts}
use Rattle.snap_board.proofs.holder.Holder.new.Goals as goal

pub of_words-requires : goal.of_words-requires
of_words-requires c = starts
