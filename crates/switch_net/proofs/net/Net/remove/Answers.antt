use Rattle.switch_net.proofs.Nets.{net-filter}
use Rattle.switch_net.proofs.net.Net.remove.Goals as goal

pub invariant_of-self : goal.invariant_of-self
invariant_of-self c = rw c.remove.ensures.others (net-filter _ c.self.inside.dead _ c.self.invariant.0, c.self.invariant.1)

pub remove-requires : goal.remove-requires
remove-requires c = (c.self.inside.next, c.self.invariant.0.numbered)
