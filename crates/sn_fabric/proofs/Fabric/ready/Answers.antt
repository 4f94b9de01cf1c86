use Rattle.std.proofs.Common.{◌∙◌}
use Rattle.sn_fabric.proofs.Reported.{ready-found}
use Rattle.sn_fabric.proofs.Fabric.ready.Goals as goal

pub returns : goal.returns
returns c =
    rw (← c.self.view_is)
    (ready-found c.self.inside.config
    (record {
      units = c.self.inside.units.items;
      homes = c.self.inside.homes.items;
      net = c.self.inside.net;
      point = c.self.inside.point;
    }) c.args.node c.from-place.result c.index-unit.result.now c.index.result.now c.now-now.result c.least_open-begun.result c.least_open-issued.result c.at_most.result c.at_most-2.result c.self.invariant.0
    (rw (← c.self.view_is) at c.requires)
    (c.from-place.ensures
    ∙ c.number.ensures.same) c.index-unit.ensures c.index.ensures c.now-now.ensures.same c.least_open-begun.ensures c.least_open-issued.ensures c.at_most.ensures c.at_most-2.ensures)
