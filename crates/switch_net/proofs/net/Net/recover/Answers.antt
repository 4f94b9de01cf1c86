use Rattle.std.proofs.Common.{Ok, refl}
use Rattle.switch_net.proofs.Nets.{net-empty, none-cut}
use Rattle.switch_net.proofs.net.Net.recover.Goals as goal

pub invariant_of-self-2 : goal.invariant_of-self-2
invariant_of-self-2 c =
    let e = c.in_ok-replan.ensures in
    rw (e.made refl, c.clear.ensures)
    (net-empty _ c.self.inside.dead c.self.invariant.0 (none-cut _ (Ok c.in_ok-replan.field-0) refl e.cut_off), c.self.invariant.1)
