use Rattle.std.proofs.Common.{not, sym, ◌∙◌}
use Rattle.mosi_cache.specs.Probe.{may_go}
use Rattle.sn_fabric.specs.Fabric.{can_go}
use Rattle.sn_fabric.specs.Parts.{fabric_as}
use Rattle.sn_fabric.proofs.Evicted.{goes-is, least_some}
use Rattle.sn_fabric.proofs.Fabric.least_line.Goals as goal

pub returns-clause-none : goal.returns-clause-none
returns-clause-none c =
    λ h b l. rw (← c.self.view_is)
    (sym (goes-is c.self.inside.config
    (record {
      units = c.self.inside.units.items;
      homes = c.self.inside.homes.items;
      net = c.self.inside.net;
      point = c.self.inside.point;
    }) c.args.node c.from.result c.args.block c.index-unit.result.now c.lacks_room-is_net_full.result c.self.invariant.0.whole (rw (← c.self.view_is) at c.requires) (c.from.ensures ∙ c.number.ensures.same) c.index-unit.ensures c.lacks_room-is_net_full.ensures.full b) ∙ c.least_line.ensures.none h b l)

pub returns-clause-some : goal.returns-clause-some
returns-clause-some c =
    rw (← c.self.view_is)
    (least_some c.least_line.result (may_go c.index-unit.result.now.cache c.args.block (not c.lacks_room-is_net_full.result))
    (can_go c.self.inside.config
    (fabric_as (record {
      units = c.self.inside.units.items;
      homes = c.self.inside.homes.items;
      net = c.self.inside.net;
      point = c.self.inside.point;
    })) c.args.node c.args.block)
    (goes-is c.self.inside.config
    (record {
      units = c.self.inside.units.items;
      homes = c.self.inside.homes.items;
      net = c.self.inside.net;
      point = c.self.inside.point;
    }) c.args.node c.from.result c.args.block c.index-unit.result.now c.lacks_room-is_net_full.result c.self.invariant.0.whole (rw (← c.self.view_is) at c.requires) (c.from.ensures ∙ c.number.ensures.same) c.index-unit.ensures c.lacks_room-is_net_full.ensures.full) c.least_line.ensures.some)
