use Rattle.sn_consistency.proofs.CoreLaws.{write_fits}
use Rattle.sn_consistency.proofs.step.write_fits_its_block.Goals as goal

pub returns : goal.returns
returns c = write_fits
