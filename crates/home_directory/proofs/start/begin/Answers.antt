use Rattle.home_directory.proofs.Starts.{usual_stays}
use Rattle.home_directory.proofs.start.begin.Goals as goal

-- the usual entry stays
pub returns-then-is_usual : goal.returns-then-is_usual
returns-then-is_usual c = usual_stays c.args.entries.now c.args.place _ (c.is_usual.ensures c.if-is_usual.true) c.requires.usual
