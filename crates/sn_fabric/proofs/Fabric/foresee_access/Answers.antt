use Rattle.std.proofs.Common.{◌∙◌}
use Rattle.sn_fabric.proofs.Accessed.{foreseen}
use Rattle.sn_fabric.proofs.Fabric.foresee_access.Goals as goal

pub returns : goal.returns
returns c =
    rw (← c.self.view_is)
    (foreseen c.self.inside.config
    (record {
      units = c.self.inside.units.items;
      homes = c.self.inside.homes.items;
      net = c.self.inside.net;
      point = c.self.inside.point;
    }) c.args.node c.from.result c.args.block c.args.need
    c.index.result.now c.probe-probe.result c.lacks_room-is_net_full.result c.access_answer.result c.self.invariant.0
    (rw (← c.self.view_is) at c.requires)
    (c.from.ensures
    ∙ c.number.ensures.same) c.index.ensures c.probe-probe.ensures c.lacks_room-is_net_full.ensures.full c.access_answer.ensures
    (rw (← c.self.view_is) at c.if-miss_open.ensures))
