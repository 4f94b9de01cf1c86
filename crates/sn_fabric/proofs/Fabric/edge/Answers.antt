use Rattle.std.proofs.Common.{set, ◌∙◌, arith}
use Rattle.sn_model.specs.Fabric.{Fabric}
use Rattle.sn_model.specs.NodeEvents.{step_of_edge}
use Rattle.sn_fabric.proofs.Calls.{edge-comes}
use Rattle.sn_fabric.proofs.Parts.{kept, after-view}
use Rattle.sn_fabric.proofs.Fabric.edge.Goals as goal

pub invariant_of-self : goal.invariant_of-self
invariant_of-self c =
    kept (edge-comes c.self.inside.config
    (record {
      units = c.self.inside.units.items;
      homes = c.self.inside.homes.items;
      net = c.self.inside.net;
      point = c.self.inside.point;
    }) c.args.node c.from.result c.index_mut-unit.result.now c.tick.new.clock c.tick.result c.clear.new.self.items c.self.invariant.0 (rw (← c.self.view_is) at c.requires.here) (c.from.ensures ∙ c.number.ensures.same) c.index_mut-unit.ensures.value c.tick.ensures.clock c.tick.ensures.answer c.clear.ensures.items)
    (omega (arith, c.self.invariant.1, c.clear.ensures.capacity))

pub returns : goal.returns
returns c =
    after-view c.self.inside.config
    (record { units = c.self.inside.units.items; homes = c.self.inside.homes.items; net = c.self.inside.net; point = c.self.inside.point })
    (record {
      units = set c.self.inside.units.items c.from.result (record c.index_mut-unit.result.now { clock = c.tick.new.clock });
      homes = c.self.inside.homes.items;
      net = c.self.inside.net;
      point = c.self.inside.point;
    }) c.self.inside.sent.items c.clear.new.self.items c.tick.result
    (λ (s : Fabric). step_of_edge s c.args.node) c.args.self.now c.self.view_is
    (edge-comes c.self.inside.config
    (record {
      units = c.self.inside.units.items;
      homes = c.self.inside.homes.items;
      net = c.self.inside.net;
      point = c.self.inside.point;
    }) c.args.node c.from.result c.index_mut-unit.result.now c.tick.new.clock c.tick.result c.clear.new.self.items c.self.invariant.0 (rw (← c.self.view_is) at c.requires.here) (c.from.ensures ∙ c.number.ensures.same) c.index_mut-unit.ensures.value c.tick.ensures.clock c.tick.ensures.answer c.clear.ensures.items)
