use Rattle.switch_net.proofs.Nets.{net-filter}
use Rattle.switch_net.proofs.net.Net.kill.Goals as goal

pub invariant_of-self : goal.invariant_of-self
invariant_of-self c = rw c.drop_in.ensures (net-filter _ c.with-self-inside.result _ c.self.invariant.0, c.self.invariant.1)
