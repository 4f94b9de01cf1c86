use Rattle.std.proofs.Common.{◌∙◌}
use Rattle.sn_fabric.proofs.Evicted.{evict-foreseen}
use Rattle.sn_fabric.proofs.Fabric.foresee_evict.Goals as goal

pub returns : goal.returns
returns c =
    rw (← c.self.view_is)
    (evict-foreseen (record {
      units = c.self.inside.units.items;
      homes = c.self.inside.homes.items;
      net = c.self.inside.net;
      point = c.self.inside.point;
    }) c.args.node c.from.result c.args.block c.index-unit.result.now c.evict_answer-answer.result c.evict_answer.result c.lacks_room-is_net_full.result
    (rw (← c.self.view_is) at c.requires)
    (c.from.ensures
    ∙ c.number.ensures.same) c.index-unit.ensures c.evict_answer-answer.ensures c.lacks_room-is_net_full.ensures.full c.evict_answer.ensures)
