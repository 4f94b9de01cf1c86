use Rattle.std.proofs.Common.{ap, arith}
use Rattle.sn_consistency.specs.Shows.{records, outs}
use Rattle.sn_consistency.proofs.CommittedPart.{below_retired, below_recovered}
use Rattle.sn_consistency.proofs.committed.committed_part_stays.Goals as goal

pub returns-clause-retired : goal.returns-clause-retired
returns-clause-retired c = λ f x point e l. ap records (below_retired f x point e l)

pub returns-clause-retired_output : goal.returns-clause-retired_output
returns-clause-retired_output c = λ image f x point e l. ap (outs image) (below_retired f x point e l)

pub returns-clause-recovered : goal.returns-clause-recovered
returns-clause-recovered c = λ f point. ap records (below_recovered f point point (omega arith))

pub returns-clause-recovered_output : goal.returns-clause-recovered_output
returns-clause-recovered_output c = λ image f point. ap (outs image) (below_recovered f point point (omega arith))
