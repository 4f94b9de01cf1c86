use Rattle.save_text.proofs.ReadBack.{read_back}
use Rattle.save_text.proofs.laws.saves_are_read_back.Goals as goal

pub returns : goal.returns
returns c = read_back
