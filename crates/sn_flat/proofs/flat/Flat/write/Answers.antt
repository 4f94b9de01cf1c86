use Rattle.sn_flat.proofs.Writes.{unwritten}
use Rattle.sn_flat.proofs.flat.Flat.write.Goals as goal

pub returns-in-None : goal.returns-in-None
returns-in-None c = unwritten c.args.self.now c.args.write c.in-None.is
