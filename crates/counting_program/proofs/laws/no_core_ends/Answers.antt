use Rattle.counting_program.proofs.Counting.{none_ends}
use Rattle.counting_program.proofs.laws.no_core_ends.Goals as goal

pub returns : goal.returns
returns c = none_ends
