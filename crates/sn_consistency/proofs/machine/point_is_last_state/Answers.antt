use Rattle.sn_consistency.proofs.CommittedPart.{committed_execution}
use Rattle.sn_consistency.proofs.Outline.{end_content, end_core, given_begins}
use Rattle.sn_consistency.proofs.machine.point_is_last_state.Goals as goal

pub returns-clause-executes : goal.returns-clause-executes
returns-clause-executes c = λ image nodes s F h m t. committed_execution image nodes s F h m.list t.good m.point

pub returns-clause-contents : goal.returns-clause-contents
returns-clause-contents c = end_content

pub returns-clause-cores : goal.returns-clause-cores
returns-clause-cores c = end_core

pub returns-clause-reads : goal.returns-clause-reads
returns-clause-reads c = given_begins
