use Rattle.std.proofs.Common.{◌≡◌, ◌<◌, length, set, ◌∙◌, subst, ap, arith}
use Rattle.std.specs.Prelude.{None}
use Rattle.log_buffer.specs.Log.{LogData}
use Rattle.sn_base.specs.declared.event.Answer.TheVariants.{Delivered}
use Rattle.sn_model.specs.NetEvents.{step_of_delivery}
use Rattle.sn_fabric.specs.Fabric.{FabricData}
use Rattle.sn_fabric.proofs.Parts.{kept, after-whole}
use Rattle.sn_fabric.proofs.Planned.{planned-there, planned-inside, planned-to}
use Rattle.sn_fabric.proofs.DoneAtHome.{home-here, home-last, home-fits, home-tells, home-room, home-goes, home-comes}
use Rattle.sn_fabric.proofs.Fabric.give_to_home.Goals as goal

pub take_out-message-requires : goal.take_out-message-requires
take_out-message-requires c =
    planned-there (record {
      units = c.self.inside.units.items;
      homes = c.self.inside.homes.items;
      net = c.self.inside.net;
      point = c.self.inside.point;
    }) c.args.id _ (rw (← c.self.view_is) at c.requires.plan)

pub index_mut-unit-requires : goal.index_mut-unit-requires
index_mut-unit-requires c =
    let h : c.take_out-message.result.to < length c.self.inside.units.items = planned-inside (record {
      units = c.self.inside.units.items;
      homes = c.self.inside.homes.items;
      net = c.self.inside.net;
      point = c.self.inside.point;
    }) c.args.id _ (rw (← c.self.view_is) at c.requires.plan) c.self.inside.config c.self.invariant.0
    c.take_out-message.result c.take_out-message.ensures.message in
    omega (arith, h, c.from-place.ensures, c.number.ensures.same)

pub index_mut-home-requires : goal.index_mut-home-requires
index_mut-home-requires c =
    let h : c.take_out-message.result.to < length c.self.inside.units.items = planned-inside (record {
      units = c.self.inside.units.items;
      homes = c.self.inside.homes.items;
      net = c.self.inside.net;
      point = c.self.inside.point;
    }) c.args.id _ (rw (← c.self.view_is) at c.requires.plan) c.self.inside.config c.self.invariant.0
    c.take_out-message.result c.take_out-message.ensures.message in
    omega (arith, h, c.self.invariant.0.whole.count, c.self.invariant.0.whole.count_homes, c.from-place.ensures, c.number.ensures.same)

pub carry_out-step-requires-clause-here : goal.carry_out-step-requires-clause-here
carry_out-step-requires-clause-here c =
    home-here c.self.inside.config
    (record {
      units = c.self.inside.units.items;
      homes = c.self.inside.homes.items;
      net = c.self.inside.net;
      point = c.self.inside.point;
    }) c.self.invariant.0 c.args.id c.args.row.now
    (rw (← c.self.view_is) at c.requires.plan) c.take_out-message.result c.take_out-message.ensures.message c.from-place.result c.now-now.result c.index_mut-unit.result.now
    (c.from-place.ensures ∙ c.number.ensures.same) c.index_mut-unit.ensures.value c.now-now.ensures.same
    c.index_mut-home.result.now c.index_mut-home.ensures.value

pub carry_out-step-requires-clause-latest : goal.carry_out-step-requires-clause-latest
carry_out-step-requires-clause-latest c =
    home-last c.self.inside.config
    (record {
      units = c.self.inside.units.items;
      homes = c.self.inside.homes.items;
      net = c.self.inside.net;
      point = c.self.inside.point;
    }) c.self.invariant.0 c.args.id c.args.row.now
    (rw (← c.self.view_is) at c.requires.plan) c.take_out-message.result c.take_out-message.ensures.message c.from-place.result c.now-now.result c.index_mut-unit.result.now
    (c.from-place.ensures ∙ c.number.ensures.same) c.index_mut-unit.ensures.value c.now-now.ensures.same
    c.index_mut-home.result.now c.index_mut-home.ensures.value

pub carry_out-step-requires-clause-room : goal.carry_out-step-requires-clause-room
carry_out-step-requires-clause-room c =
    home-fits c.self.inside.config
    (record {
      units = c.self.inside.units.items;
      homes = c.self.inside.homes.items;
      net = c.self.inside.net;
      point = c.self.inside.point;
    }) c.self.invariant.0 c.args.id c.args.row.now
    (rw (← c.self.view_is) at c.requires.plan) c.take_out-message.result c.take_out-message.ensures.message c.from-place.result c.now-now.result c.index_mut-unit.result.now
    (c.from-place.ensures ∙ c.number.ensures.same) c.index_mut-unit.ensures.value c.now-now.ensures.same
    c.index_mut-home.result.now c.index_mut-home.ensures.value

pub post_step-requires-clause-room : goal.post_step-requires-clause-room
post_step-requires-clause-room c =
    home-room c.self.inside.config
    (record {
      units = c.self.inside.units.items;
      homes = c.self.inside.homes.items;
      net = c.self.inside.net;
      point = c.self.inside.point;
    }) c.self.invariant.0 c.args.id c.args.row.now
    (rw (← c.self.view_is) at c.requires.plan) c.take_out-message.result c.take_out-message.ensures.message c.from-place.result c.now-now.result c.index_mut-unit.result.now
    (c.from-place.ensures ∙ c.number.ensures.same) c.index_mut-unit.ensures.value c.now-now.ensures.same
    c.index_mut-home.result.now c.index_mut-home.ensures.value
    c.carry_out-step.result c.carry_out-step.ensures.sent c.take_out-message.new.net c.take_out-message.ensures.net

pub post_step-requires-clause-sender : goal.post_step-requires-clause-sender
post_step-requires-clause-sender c =
    let h = planned-to (record {
      units = c.self.inside.units.items;
      homes = c.self.inside.homes.items;
      net = c.self.inside.net;
      point = c.self.inside.point;
    }) c.args.id _ (rw (← c.self.view_is) at c.requires.plan) c.self.inside.config c.self.invariant.0
    c.take_out-message.result c.take_out-message.ensures.message in
    rw c.take_out-message.ensures.net h

pub post_step-requires-clause-receivers : goal.post_step-requires-clause-receivers
post_step-requires-clause-receivers c =
    home-goes c.self.inside.config
    (record {
      units = c.self.inside.units.items;
      homes = c.self.inside.homes.items;
      net = c.self.inside.net;
      point = c.self.inside.point;
    }) c.self.invariant.0 c.args.id c.args.row.now
    (rw (← c.self.view_is) at c.requires.plan) c.take_out-message.result c.take_out-message.ensures.message c.from-place.result c.now-now.result c.index_mut-unit.result.now
    (c.from-place.ensures ∙ c.number.ensures.same) c.index_mut-unit.ensures.value c.now-now.ensures.same
    c.index_mut-home.result.now c.index_mut-home.ensures.value
    c.carry_out-step.result c.carry_out-step.ensures.sent c.take_out-message.new.net c.take_out-message.ensures.net

pub invariant_of-self : goal.invariant_of-self
invariant_of-self c =
    kept (home-comes c.self.inside.config
    (record {
      units = c.self.inside.units.items;
      homes = c.self.inside.homes.items;
      net = c.self.inside.net;
      point = c.self.inside.point;
    }) c.self.invariant.0 c.args.id c.args.row.now
    (rw (← c.self.view_is) at c.requires.plan) c.take_out-message.result c.take_out-message.ensures.message c.from-place.result c.now-now.result c.index_mut-unit.result.now
    (c.from-place.ensures ∙ c.number.ensures.same) c.index_mut-unit.ensures.value c.now-now.ensures.same
    c.index_mut-home.result.now c.index_mut-home.ensures.value
    c.carry_out-step.result c.carry_out-step.ensures.sent c.take_out-message.new.net c.take_out-message.ensures.net
    (record c.index_mut-unit.result.now { log = c.carry_out-step.new.log }) c.carry_out-step.new.self c.post_step.new.net c.post_step.new.sent.items
    (ap (λ (l : LogData). record c.index_mut-unit.result.now { log = l }) c.carry_out-step.ensures.log) c.carry_out-step.ensures.home
    c.post_step.ensures.routes c.post_step.ensures.net (rw c.take_out-message.ensures.sent at c.post_step.ensures.sent))
    (omega (arith, c.self.invariant.1, c.take_out-message.ensures.capacity, c.post_step.ensures.capacity))

pub returns-clause-after : goal.returns-clause-after
returns-clause-after c =
    after-whole c.self.inside.config
    (record { units = c.self.inside.units.items; homes = c.self.inside.homes.items; net = c.self.inside.net; point = c.self.inside.point })
    (record {
      units = set c.self.inside.units.items c.from-place.result
          (record c.index_mut-unit.result.now { log = c.carry_out-step.new.log });
      homes = set c.self.inside.homes.items c.from-place.result c.carry_out-step.new.self;
      net = c.post_step.new.net;
      point = c.self.inside.point;
    }) c.self.inside.sent.items c.post_step.new.sent.items Delivered
    (λ (d : FabricData). step_of_delivery d.config d.fabric c.args.id) c.args.self.now c.self.view_is
    (home-comes c.self.inside.config
    (record {
      units = c.self.inside.units.items;
      homes = c.self.inside.homes.items;
      net = c.self.inside.net;
      point = c.self.inside.point;
    }) c.self.invariant.0 c.args.id c.args.row.now
    (rw (← c.self.view_is) at c.requires.plan) c.take_out-message.result c.take_out-message.ensures.message c.from-place.result c.now-now.result c.index_mut-unit.result.now
    (c.from-place.ensures ∙ c.number.ensures.same) c.index_mut-unit.ensures.value c.now-now.ensures.same
    c.index_mut-home.result.now c.index_mut-home.ensures.value
    c.carry_out-step.result c.carry_out-step.ensures.sent c.take_out-message.new.net c.take_out-message.ensures.net
    (record c.index_mut-unit.result.now { log = c.carry_out-step.new.log }) c.carry_out-step.new.self c.post_step.new.net c.post_step.new.sent.items
    (ap (λ (l : LogData). record c.index_mut-unit.result.now { log = l }) c.carry_out-step.ensures.log) c.carry_out-step.ensures.home
    c.post_step.ensures.routes c.post_step.ensures.net (rw c.take_out-message.ensures.sent at c.post_step.ensures.sent))

pub returns-clause-told : goal.returns-clause-told
returns-clause-told c =
    subst (λ (d : FabricData). (step_of_delivery d.config d.fabric c.args.id).told ≡ None) c.self.view_is
    (home-tells c.self.inside.config
    (record {
      units = c.self.inside.units.items;
      homes = c.self.inside.homes.items;
      net = c.self.inside.net;
      point = c.self.inside.point;
    }) c.self.invariant.0 c.args.id c.args.row.now
    (rw (← c.self.view_is) at c.requires.plan) c.take_out-message.result c.take_out-message.ensures.message c.from-place.result c.now-now.result c.index_mut-unit.result.now
    (c.from-place.ensures ∙ c.number.ensures.same) c.index_mut-unit.ensures.value c.now-now.ensures.same
    c.index_mut-home.result.now c.index_mut-home.ensures.value)
