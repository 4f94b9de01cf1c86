use Rattle.sn_machine.proofs.Invariant.{sound}
use Rattle.sn_machine.proofs.machine.Machine.foresee.Goals as goal

pub foresee-requires-clause-sound : goal.foresee-requires-clause-sound
foresee-requires-clause-sound c =
    sound c.self.inside.image c.self.inside.config c.self.inside.hardware c.self.inside.applied c.self.inside.spare c.self.invariant
