use Rattle.std.proofs.Common.{◌≡◌, ◌<◌, length, set, ◌∙◌, refl, subst, arith}
use Rattle.std.specs.Prelude.{Some}
use Rattle.sn_base.specs.declared.event.Answer.TheVariants.{Delivered}
use Rattle.sn_model.specs.declared.net.News.TheVariants.{Advance}
use Rattle.sn_model.specs.NetEvents.{step_of_delivery}
use Rattle.sn_fabric.specs.Fabric.{FabricData}
use Rattle.sn_fabric.proofs.Parts.{kept, after-whole}
use Rattle.sn_fabric.proofs.Planned.{planned-there, planned-inside}
use Rattle.sn_fabric.proofs.ToNode.{advance-tells, advance-reached, advance-learned}
use Rattle.sn_fabric.proofs.Fabric.learn.Goals as goal

pub take_out-message-requires : goal.take_out-message-requires
take_out-message-requires c =
    planned-there (record {
      units = c.self.inside.units.items;
      homes = c.self.inside.homes.items;
      net = c.self.inside.net;
      point = c.self.inside.point;
    }) c.args.id _ (rw (← c.self.view_is) at c.requires)

pub index_mut-unit-requires : goal.index_mut-unit-requires
index_mut-unit-requires c =
    let h : c.take_out-message.result.to < length c.self.inside.units.items = planned-inside (record {
      units = c.self.inside.units.items;
      homes = c.self.inside.homes.items;
      net = c.self.inside.net;
      point = c.self.inside.point;
    }) c.args.id _ (rw (← c.self.view_is) at c.requires) c.self.inside.config c.self.invariant.0
    c.take_out-message.result c.take_out-message.ensures.message in
    omega (arith, h, c.from.ensures, c.number.ensures.same)

pub learn-requires : goal.learn-requires
learn-requires c =
    advance-reached c.self.inside.config
    (record {
      units = c.self.inside.units.items;
      homes = c.self.inside.homes.items;
      net = c.self.inside.net;
      point = c.self.inside.point;
    }) c.self.invariant.0 c.args.id c.args.k
    (rw (← c.self.view_is) at c.requires) c.take_out-message.result c.take_out-message.ensures.message c.from.result c.index_mut-unit.result.now
    (c.from.ensures ∙ c.number.ensures.same) c.index_mut-unit.ensures.value

pub invariant_of-self : goal.invariant_of-self
invariant_of-self c =
    kept (advance-learned c.self.inside.config
    (record {
      units = c.self.inside.units.items;
      homes = c.self.inside.homes.items;
      net = c.self.inside.net;
      point = c.self.inside.point;
    }) c.self.invariant.0 c.args.id c.args.k
    (rw (← c.self.view_is) at c.requires) c.take_out-message.result c.take_out-message.ensures.message c.from.result c.index_mut-unit.result.now
    (c.from.ensures ∙ c.number.ensures.same) c.index_mut-unit.ensures.value
    c.learn.new.self c.free_below.new.self c.take_out-message.new.net c.take_out-message.new.sent.items
    c.learn.ensures c.free_below.ensures c.take_out-message.ensures.net c.take_out-message.ensures.sent)
    (omega (arith, c.self.invariant.1, c.take_out-message.ensures.capacity))

pub returns-clause-after : goal.returns-clause-after
returns-clause-after c =
    after-whole c.self.inside.config
    (record { units = c.self.inside.units.items; homes = c.self.inside.homes.items; net = c.self.inside.net; point = c.self.inside.point })
    (record {
      units = set c.self.inside.units.items c.from.result
          (record c.index_mut-unit.result.now { clock = c.learn.new.self; log = c.free_below.new.self });
      homes = c.self.inside.homes.items;
      net = c.take_out-message.new.net;
      point = c.self.inside.point;
    }) c.self.inside.sent.items c.take_out-message.new.sent.items Delivered
    (λ (d : FabricData). step_of_delivery d.config d.fabric c.args.id) c.args.self.now c.self.view_is
    (advance-learned c.self.inside.config
    (record {
      units = c.self.inside.units.items;
      homes = c.self.inside.homes.items;
      net = c.self.inside.net;
      point = c.self.inside.point;
    }) c.self.invariant.0 c.args.id c.args.k
    (rw (← c.self.view_is) at c.requires) c.take_out-message.result c.take_out-message.ensures.message c.from.result c.index_mut-unit.result.now
    (c.from.ensures ∙ c.number.ensures.same) c.index_mut-unit.ensures.value
    c.learn.new.self c.free_below.new.self c.take_out-message.new.net c.take_out-message.new.sent.items
    c.learn.ensures c.free_below.ensures c.take_out-message.ensures.net c.take_out-message.ensures.sent)

pub returns-clause-told : goal.returns-clause-told
returns-clause-told c =
    subst (λ (d : FabricData). Some (Advance c.take_out-message.result.to c.args.k) ≡ (step_of_delivery d.config d.fabric c.args.id).told) c.self.view_is
    (advance-tells c.self.inside.config
    (record {
      units = c.self.inside.units.items;
      homes = c.self.inside.homes.items;
      net = c.self.inside.net;
      point = c.self.inside.point;
    }) c.self.invariant.0 c.args.id c.args.k
    (rw (← c.self.view_is) at c.requires) c.take_out-message.result c.take_out-message.ensures.message (Advance c.take_out-message.result.to c.args.k) refl)
