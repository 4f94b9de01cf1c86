use Rattle.switch_net.proofs.Nets.{net-moved}
use Rattle.switch_net.proofs.net.Net.put_into.Goals as goal

pub invariant_of-self : goal.invariant_of-self
invariant_of-self c =
    rw c.put.ensures (net-moved _ c.args.id c.args.switch c.self.invariant.0 (rw (← c.self.view_is) at c.requires), c.self.invariant.1)

pub put-requires : goal.put-requires
put-requires c = (c.self.inside.next, c.self.invariant.0.numbered)
