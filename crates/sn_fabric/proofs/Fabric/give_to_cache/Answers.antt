use Rattle.std.proofs.Common.{◌≡◌, ◌<◌, length, set, ◌∙◌, subst, arith}
use Rattle.sn_base.specs.declared.event.Answer.TheVariants.{Delivered}
use Rattle.sn_model.specs.NetEvents.{step_of_delivery}
use Rattle.sn_fabric.specs.Fabric.{FabricData}
use Rattle.sn_fabric.proofs.Parts.{kept, after-whole}
use Rattle.sn_fabric.proofs.Planned.{planned-there, planned-inside, planned-to}
use Rattle.sn_fabric.proofs.DoneAtCache.{cache-meets, cache-last, cache-fits, cache-tells, cache-room, cache-goes, cache-comes}
use Rattle.sn_fabric.proofs.Fabric.give_to_cache.Goals as goal

pub take_out-message-requires : goal.take_out-message-requires
take_out-message-requires c =
    planned-there (record {
      units = c.self.inside.units.items;
      homes = c.self.inside.homes.items;
      net = c.self.inside.net;
      point = c.self.inside.point;
    }) c.args.id _ (rw (← c.self.view_is) at c.requires.plan)

pub index_mut-unit-requires : goal.index_mut-unit-requires
index_mut-unit-requires c =
    let h : c.take_out-message.result.to < length c.self.inside.units.items = planned-inside (record {
      units = c.self.inside.units.items;
      homes = c.self.inside.homes.items;
      net = c.self.inside.net;
      point = c.self.inside.point;
    }) c.args.id _ (rw (← c.self.view_is) at c.requires.plan) c.self.inside.config c.self.invariant.0
    c.take_out-message.result c.take_out-message.ensures.message in
    omega (arith, h, c.from.ensures, c.number.ensures.same)

pub do_row-step-requires-clause-meets : goal.do_row-step-requires-clause-meets
do_row-step-requires-clause-meets c =
    cache-meets c.self.inside.config
    (record {
      units = c.self.inside.units.items;
      homes = c.self.inside.homes.items;
      net = c.self.inside.net;
      point = c.self.inside.point;
    }) c.self.invariant.0 c.args.id c.args.row.now
    (rw (← c.self.view_is) at c.requires.plan) c.take_out-message.result c.take_out-message.ensures.message c.from.result c.now-now.result c.index_mut-unit.result.now
    (c.from.ensures ∙ c.number.ensures.same) c.index_mut-unit.ensures.value c.now-now.ensures.same

pub do_row-step-requires-clause-last : goal.do_row-step-requires-clause-last
do_row-step-requires-clause-last c =
    cache-last c.self.inside.config
    (record {
      units = c.self.inside.units.items;
      homes = c.self.inside.homes.items;
      net = c.self.inside.net;
      point = c.self.inside.point;
    }) c.self.invariant.0 c.args.id c.args.row.now
    (rw (← c.self.view_is) at c.requires.plan) c.take_out-message.result c.take_out-message.ensures.message c.from.result c.now-now.result c.index_mut-unit.result.now
    (c.from.ensures ∙ c.number.ensures.same) c.index_mut-unit.ensures.value c.now-now.ensures.same

pub do_row-step-requires-clause-room : goal.do_row-step-requires-clause-room
do_row-step-requires-clause-room c =
    cache-fits c.self.inside.config
    (record {
      units = c.self.inside.units.items;
      homes = c.self.inside.homes.items;
      net = c.self.inside.net;
      point = c.self.inside.point;
    }) c.self.invariant.0 c.args.id c.args.row.now
    (rw (← c.self.view_is) at c.requires.plan) c.take_out-message.result c.take_out-message.ensures.message c.from.result c.now-now.result c.index_mut-unit.result.now
    (c.from.ensures ∙ c.number.ensures.same) c.index_mut-unit.ensures.value c.now-now.ensures.same

pub post_one-requires-clause-room : goal.post_one-requires-clause-room
post_one-requires-clause-room c =
    cache-room c.self.inside.config
    (record {
      units = c.self.inside.units.items;
      homes = c.self.inside.homes.items;
      net = c.self.inside.net;
      point = c.self.inside.point;
    }) c.self.invariant.0 c.args.id c.args.row.now
    (rw (← c.self.view_is) at c.requires.plan) c.take_out-message.result c.take_out-message.ensures.message c.from.result c.now-now.result c.index_mut-unit.result.now
    (c.from.ensures ∙ c.number.ensures.same) c.index_mut-unit.ensures.value c.now-now.ensures.same
    c.do_row-step.result c.do_row-step.ensures.answer c.out_of-out.result c.out_of-out.ensures c.take_out-message.new.net c.take_out-message.ensures.net

pub post_one-requires-clause-sender : goal.post_one-requires-clause-sender
post_one-requires-clause-sender c =
    let h = planned-to (record {
      units = c.self.inside.units.items;
      homes = c.self.inside.homes.items;
      net = c.self.inside.net;
      point = c.self.inside.point;
    }) c.args.id _ (rw (← c.self.view_is) at c.requires.plan) c.self.inside.config c.self.invariant.0
    c.take_out-message.result c.take_out-message.ensures.message in
    rw c.take_out-message.ensures.net h

pub post_one-requires-clause-receivers : goal.post_one-requires-clause-receivers
post_one-requires-clause-receivers c =
    cache-goes c.self.inside.config
    (record {
      units = c.self.inside.units.items;
      homes = c.self.inside.homes.items;
      net = c.self.inside.net;
      point = c.self.inside.point;
    }) c.self.invariant.0 c.args.id c.args.row.now
    (rw (← c.self.view_is) at c.requires.plan) c.take_out-message.result c.take_out-message.ensures.message c.from.result c.now-now.result c.index_mut-unit.result.now
    (c.from.ensures ∙ c.number.ensures.same) c.index_mut-unit.ensures.value c.now-now.ensures.same
    c.do_row-step.result c.do_row-step.ensures.answer c.out_of-out.result c.out_of-out.ensures c.take_out-message.new.net c.take_out-message.ensures.net

pub invariant_of-self : goal.invariant_of-self
invariant_of-self c =
    kept (cache-comes c.self.inside.config
    (record {
      units = c.self.inside.units.items;
      homes = c.self.inside.homes.items;
      net = c.self.inside.net;
      point = c.self.inside.point;
    }) c.self.invariant.0 c.args.id c.args.row.now
    (rw (← c.self.view_is) at c.requires.plan) c.take_out-message.result c.take_out-message.ensures.message c.from.result c.now-now.result c.index_mut-unit.result.now
    (c.from.ensures ∙ c.number.ensures.same) c.index_mut-unit.ensures.value c.now-now.ensures.same
    c.do_row-step.result c.do_row-step.ensures.answer c.out_of-out.result c.out_of-out.ensures c.take_out-message.new.net c.take_out-message.ensures.net
    c.do_row-step.new.unit c.post_one.new.net c.post_one.new.sent.items c.do_row-step.ensures.unit c.post_one.ensures.routes
    c.post_one.ensures.net (rw c.take_out-message.ensures.sent at c.post_one.ensures.sent))
    (omega (arith, c.self.invariant.1, c.take_out-message.ensures.capacity, c.post_one.ensures.capacity))

pub returns-clause-after : goal.returns-clause-after
returns-clause-after c =
    after-whole c.self.inside.config
    (record { units = c.self.inside.units.items; homes = c.self.inside.homes.items; net = c.self.inside.net; point = c.self.inside.point })
    (record {
      units = set c.self.inside.units.items c.from.result c.do_row-step.new.unit;
      homes = c.self.inside.homes.items;
      net = c.post_one.new.net;
      point = c.self.inside.point;
    }) c.self.inside.sent.items c.post_one.new.sent.items Delivered
    (λ (d : FabricData). step_of_delivery d.config d.fabric c.args.id) c.args.self.now c.self.view_is
    (cache-comes c.self.inside.config
    (record {
      units = c.self.inside.units.items;
      homes = c.self.inside.homes.items;
      net = c.self.inside.net;
      point = c.self.inside.point;
    }) c.self.invariant.0 c.args.id c.args.row.now
    (rw (← c.self.view_is) at c.requires.plan) c.take_out-message.result c.take_out-message.ensures.message c.from.result c.now-now.result c.index_mut-unit.result.now
    (c.from.ensures ∙ c.number.ensures.same) c.index_mut-unit.ensures.value c.now-now.ensures.same
    c.do_row-step.result c.do_row-step.ensures.answer c.out_of-out.result c.out_of-out.ensures c.take_out-message.new.net c.take_out-message.ensures.net
    c.do_row-step.new.unit c.post_one.new.net c.post_one.new.sent.items c.do_row-step.ensures.unit c.post_one.ensures.routes
    c.post_one.ensures.net (rw c.take_out-message.ensures.sent at c.post_one.ensures.sent))

pub returns-clause-told : goal.returns-clause-told
returns-clause-told c =
    subst (λ (d : FabricData). c.lost_by.result ≡ (step_of_delivery d.config d.fabric c.args.id).told) c.self.view_is
    (cache-tells c.self.inside.config
    (record {
      units = c.self.inside.units.items;
      homes = c.self.inside.homes.items;
      net = c.self.inside.net;
      point = c.self.inside.point;
    }) c.self.invariant.0 c.args.id c.args.row.now
    (rw (← c.self.view_is) at c.requires.plan) c.take_out-message.result c.take_out-message.ensures.message c.from.result c.now-now.result c.index_mut-unit.result.now
    (c.from.ensures ∙ c.number.ensures.same) c.index_mut-unit.ensures.value c.now-now.ensures.same
    c.do_row-step.result c.do_row-step.ensures.answer c.lost_by.result c.lost_by.ensures)
