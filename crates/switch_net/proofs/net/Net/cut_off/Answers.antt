use Rattle.switch_net.proofs.net.Net.cut_off.Goals as goal

pub returns-clause-none : goal.returns-clause-none
returns-clause-none c = rw (← c.self.view_is) c.cut_off.ensures.none
