use Rattle.switch_net.proofs.Nets.{net-found}
use Rattle.switch_net.proofs.net.Net.found.Goals as goal

pub returns-clause-placed : goal.returns-clause-placed
returns-clause-placed c = rw (← c.self.view_is) (net-found _ c.args.id c.find.result c.self.invariant.0 c.find.ensures)

pub find-requires : goal.find-requires
find-requires c = (c.self.inside.next, c.self.invariant.0.numbered)
