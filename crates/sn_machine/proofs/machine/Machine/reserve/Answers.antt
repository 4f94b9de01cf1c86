use Rattle.sn_machine.proofs.Invariant.{keeps_room, reserves}
use Rattle.sn_machine.proofs.machine.Machine.reserve.Goals as goal

pub invariant_of-self : goal.invariant_of-self
invariant_of-self c =
    keeps_room c.self.inside.image c.self.inside.config c.self.inside.hardware c.reserve.new.self c.self.inside.applied c.self.inside.spare c.self.invariant c.in_err-reserve.ensures.same

pub invariant_of-self-2 : goal.invariant_of-self-2
invariant_of-self-2 c =
    rw c.max-self-inside.ensures
    (reserves c.self.inside.image c.self.inside.config c.self.inside.hardware c.reserve.new.self c.self.inside.applied c.self.inside.spare c.args.events c.self.invariant c.in_ok-reserve.ensures.same c.in_ok-reserve.ensures.ok
    (rw (← c.self.view_is) at c.requires))
