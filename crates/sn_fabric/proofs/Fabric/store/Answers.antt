use Rattle.std.proofs.Common.{set, ◌∙◌, arith}
use Rattle.sn_base.specs.declared.event.Answer.TheVariants.{Retired}
use Rattle.sn_model.specs.Access.{fabric_with_write}
use Rattle.sn_model.specs.Fabric.{Fabric, step_with_answer}
use Rattle.sn_fabric.proofs.Parts.{kept, after-view}
use Rattle.sn_fabric.proofs.Stored.{store-ready, store-last, store-comes}
use Rattle.sn_fabric.proofs.Fabric.store.Goals as goal

pub store-requires-clause-ready : goal.store-requires-clause-ready
store-requires-clause-ready c =
    store-ready c.self.inside.config
    (record {
      units = c.self.inside.units.items;
      homes = c.self.inside.homes.items;
      net = c.self.inside.net;
      point = c.self.inside.point;
    }) c.args.node c.from.result c.now-now.result c.args.write.now c.index_mut-unit.result.now c.self.invariant.0 (rw (← c.self.view_is) at c.requires.can) (c.from.ensures ∙ c.number.ensures.same) c.index_mut-unit.ensures.value c.now-now.ensures.same (rw (← c.self.view_is) at c.requires.room)

pub store-requires-clause-last : goal.store-requires-clause-last
store-requires-clause-last c =
    store-last c.self.inside.config
    (record {
      units = c.self.inside.units.items;
      homes = c.self.inside.homes.items;
      net = c.self.inside.net;
      point = c.self.inside.point;
    }) c.args.node c.from.result c.now-now.result c.args.write.now c.index_mut-unit.result.now c.self.invariant.0 (rw (← c.self.view_is) at c.requires.can) (c.from.ensures ∙ c.number.ensures.same) c.index_mut-unit.ensures.value c.now-now.ensures.same

pub invariant_of-self : goal.invariant_of-self
invariant_of-self c =
    kept (store-comes c.self.inside.config
    (record {
      units = c.self.inside.units.items;
      homes = c.self.inside.homes.items;
      net = c.self.inside.net;
      point = c.self.inside.point;
    }) c.args.node c.from.result c.now-now.result c.args.write.now c.index_mut-unit.result.now c.self.invariant.0
    (rw (← c.self.view_is) at c.requires.can)
    (c.from.ensures
    ∙ c.number.ensures.same) c.index_mut-unit.ensures.value c.now-now.ensures.same c.store.new.self c.store.new.log c.clear.new.self.items
    (rw (← c.self.view_is) at c.requires.room) c.store.ensures.stored c.store.ensures.log c.clear.ensures.items)
    (omega (arith, c.self.invariant.1, c.clear.ensures.capacity))

pub returns : goal.returns
returns c =
    after-view c.self.inside.config
    (record { units = c.self.inside.units.items; homes = c.self.inside.homes.items; net = c.self.inside.net; point = c.self.inside.point })
    (record {
      units = set c.self.inside.units.items c.from.result
          (record c.index_mut-unit.result.now { cache = c.store.new.self; log = c.store.new.log });
      homes = c.self.inside.homes.items;
      net = c.self.inside.net;
      point = c.self.inside.point;
    })
    c.self.inside.sent.items c.clear.new.self.items Retired
    (λ (s : Fabric). step_with_answer (fabric_with_write s c.args.node c.args.write.now) Retired) c.args.self.now c.self.view_is
    (store-comes c.self.inside.config
    (record {
      units = c.self.inside.units.items;
      homes = c.self.inside.homes.items;
      net = c.self.inside.net;
      point = c.self.inside.point;
    }) c.args.node c.from.result c.now-now.result c.args.write.now c.index_mut-unit.result.now c.self.invariant.0 (rw (← c.self.view_is) at c.requires.can) (c.from.ensures ∙ c.number.ensures.same) c.index_mut-unit.ensures.value c.now-now.ensures.same c.store.new.self c.store.new.log c.clear.new.self.items (rw (← c.self.view_is) at c.requires.room) c.store.ensures.stored c.store.ensures.log c.clear.ensures.items)
