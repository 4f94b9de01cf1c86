use Rattle.std.proofs.Common.{subst}
use Rattle.sn_machine.specs.Machine.{IsConsistentWithItsRun}
use Rattle.sn_machine.proofs.Invariant.{consistent-with_its_run}
use Rattle.sn_machine.proofs.machine.Machine.recovered.Goals as goal

pub returns-clause-consistent : goal.returns-clause-consistent
returns-clause-consistent c =
    subst IsConsistentWithItsRun c.self.view_is
    (consistent-with_its_run c.self.inside.image c.self.inside.config c.self.inside.hardware c.self.inside.applied c.self.inside.spare c.self.invariant)
