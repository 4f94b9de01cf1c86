use Rattle.std.proofs.Common.{ap}
use Rattle.sn_consistency.specs.Shows.{records}
use Rattle.sn_consistency.proofs.CommittedPart.{below_cut, recovered_execution}
use Rattle.sn_consistency.proofs.Sorted.{cut_off_low, cut_off_high, cut_off_good}
use Rattle.sn_consistency.proofs.committed.recovery_leaves_execution.Goals as goal

pub returns-clause-good : goal.returns-clause-good
returns-clause-good c = λ image nodes F f g point. cut_off_good image F f point nodes g

pub returns-clause-executes : goal.returns-clause-executes
returns-clause-executes c = recovered_execution

pub returns-clause-earlier : goal.returns-clause-earlier
returns-clause-earlier c = λ image F f point k l. cut_off_low image F f point k l

pub returns-clause-later : goal.returns-clause-later
returns-clause-later c = λ image F f point k l. cut_off_high image F f point k l

pub returns-clause-all : goal.returns-clause-all
returns-clause-all c = λ f point k l. ap records (below_cut f point k l)
