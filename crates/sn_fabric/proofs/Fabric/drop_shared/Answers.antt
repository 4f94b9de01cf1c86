use Rattle.std.proofs.Common.{set, ◌∙◌, arith}
use Rattle.sn_base.specs.declared.event.Answer.TheVariants.{Evicted}
use Rattle.sn_model.specs.Fabric.{Fabric}
use Rattle.sn_model.specs.NodeEvents.{step_of_eviction}
use Rattle.sn_fabric.proofs.Evicted.{drop-comes}
use Rattle.sn_fabric.proofs.Parts.{kept, after-view}
use Rattle.sn_fabric.proofs.Fabric.drop_shared.Goals as goal

pub invariant_of-self : goal.invariant_of-self
invariant_of-self c =
    kept (drop-comes c.self.inside.config
    (record {
      units = c.self.inside.units.items;
      homes = c.self.inside.homes.items;
      net = c.self.inside.net;
      point = c.self.inside.point;
    }) c.args.node c.from.result c.args.block c.index_mut-unit.result.now c.drop_shared.new.self c.clear.new.self.items c.self.invariant.0 (rw (← c.self.view_is) at c.requires.here)
    (omega (arith, c.number-number.ensures.small, c.number-number.ensures.same)) (rw (← c.self.view_is) at c.requires.drops)
    (c.from.ensures ∙ c.number.ensures.same) c.index_mut-unit.ensures.value c.drop_shared.ensures c.clear.ensures.items)
    (omega (arith, c.self.invariant.1, c.clear.ensures.capacity))

pub returns : goal.returns
returns c =
    after-view c.self.inside.config
    (record { units = c.self.inside.units.items; homes = c.self.inside.homes.items; net = c.self.inside.net; point = c.self.inside.point })
    (record {
      units = set c.self.inside.units.items c.from.result (record c.index_mut-unit.result.now { cache = c.drop_shared.new.self });
      homes = c.self.inside.homes.items;
      net = c.self.inside.net;
      point = c.self.inside.point;
    })
    c.self.inside.sent.items c.clear.new.self.items Evicted
    (λ (s : Fabric). step_of_eviction s c.args.node c.args.block) c.args.self.now c.self.view_is
    (drop-comes c.self.inside.config
    (record {
      units = c.self.inside.units.items;
      homes = c.self.inside.homes.items;
      net = c.self.inside.net;
      point = c.self.inside.point;
    }) c.args.node c.from.result c.args.block c.index_mut-unit.result.now c.drop_shared.new.self c.clear.new.self.items c.self.invariant.0 (rw (← c.self.view_is) at c.requires.here)
    (omega (arith, c.number-number.ensures.small, c.number-number.ensures.same)) (rw (← c.self.view_is) at c.requires.drops)
    (c.from.ensures ∙ c.number.ensures.same) c.index_mut-unit.ensures.value c.drop_shared.ensures c.clear.ensures.items)
