use Rattle.std.proofs.Common.{List, sym, ap, ◌∙◌}
use Rattle.switch_net.specs.declared.flight.Flight.{Flight}
use Rattle.switch_net.proofs.Nets.{without-none, none-there}
use Rattle.switch_net.proofs.net.Net.lose.Goals as goal

pub returns-clause-absent : goal.returns-clause-absent
returns-clause-absent c = λ e.
    c.remove.ensures.others
    ∙ ap (λ (fs : List Flight). record c.args.self.now { flights = fs })
    (without-none c.args.id c.args.self.now.flights
    (none-there (c.remove.ensures.removed) (sym c.is_some.ensures ∙ e)))
