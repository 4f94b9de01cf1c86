use Rattle.sn_consistency.proofs.Outline.{begun_keeps, retired_keeps, edged_keeps, lost_keeps, learned_keeps, given_keeps, validated_keeps}
use Rattle.sn_consistency.proofs.Outline.{recovered_keeps}
use Rattle.sn_consistency.proofs.machine.each_event_keeps.Goals as goal

pub returns-clause-begun : goal.returns-clause-begun
returns-clause-begun c = begun_keeps

pub returns-clause-retired : goal.returns-clause-retired
returns-clause-retired c = retired_keeps

pub returns-clause-edged : goal.returns-clause-edged
returns-clause-edged c = edged_keeps

pub returns-clause-lost : goal.returns-clause-lost
returns-clause-lost c = lost_keeps

pub returns-clause-learned : goal.returns-clause-learned
returns-clause-learned c = learned_keeps

pub returns-clause-given : goal.returns-clause-given
returns-clause-given c = given_keeps

pub returns-clause-validated : goal.returns-clause-validated
returns-clause-validated c = validated_keeps

pub returns-clause-recovered : goal.returns-clause-recovered
returns-clause-recovered c = recovered_keeps
