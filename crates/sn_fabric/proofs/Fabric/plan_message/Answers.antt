use Rattle.std.proofs.Common.{◌≡◌, ◌<◌, ◌≤◌, length, ◌∙◌, subst, sym, refl, arith}
use Rattle.sn_base.specs.declared.event.Answer.TheVariants.{Held}
use Rattle.sn_model.specs.Fabric.{node_at, step_refused}
use Rattle.sn_model.specs.NetEvents.{step_of_delivery}
use Rattle.sn_fabric.specs.Fabric.{FabricData}
use Rattle.sn_fabric.proofs.Given.{inside}
use Rattle.sn_fabric.proofs.Delivered.{held, not-held}
use Rattle.sn_fabric.proofs.Fabric.plan_message.Goals as goal

pub index-unit-requires : goal.index-unit-requires
index-unit-requires c =
    let h : c.args.message.now.to < length c.self.inside.units.items = inside c.self.inside.config
    (record {
      units = c.self.inside.units.items;
      homes = c.self.inside.homes.items;
      net = c.self.inside.net;
      point = c.self.inside.point;
    }) c.self.invariant.0 c.args.message.now (rw (← c.self.view_is) at c.requires) in
    omega (arith, h, c.from.ensures, c.number.ensures.same)

pub returns-then-held : goal.returns-then-held
returns-then-held c =
    subst (λ (d : FabricData). step_of_delivery d.config d.fabric c.args.message.now.id ≡ step_refused d.fabric Held) c.self.view_is
    (held c.self.inside.config
    (record {
      units = c.self.inside.units.items;
      homes = c.self.inside.homes.items;
      net = c.self.inside.net;
      point = c.self.inside.point;
    }) c.self.invariant.0 c.args.message.now
    (rw (← c.self.view_is) at c.requires) c.from.result c.index-unit.result.now
    (c.from.ensures ∙ c.number.ensures.same) c.index-unit.ensures (sym c.held.ensures ∙ c.if-held.true))

pub plan_at_cache-requires-clause-reached : goal.plan_at_cache-requires-clause-reached
plan_at_cache-requires-clause-reached c =
    subst (λ (d : FabricData). c.args.message.now.tag ≤ (node_at d.fabric c.args.message.now.to).now) c.self.view_is
    (not-held c.self.inside.config
    (record {
      units = c.self.inside.units.items;
      homes = c.self.inside.homes.items;
      net = c.self.inside.net;
      point = c.self.inside.point;
    }) c.self.invariant.0 c.args.message.now
    (rw (← c.self.view_is) at c.requires) c.from.result c.index-unit.result.now
    (c.from.ensures ∙ c.number.ensures.same) c.index-unit.ensures (sym c.held.ensures ∙ c.if-held.false))

pub plan_at_home-requires-clause-reached : goal.plan_at_home-requires-clause-reached
plan_at_home-requires-clause-reached c =
    subst (λ (d : FabricData). c.args.message.now.tag ≤ (node_at d.fabric c.args.message.now.to).now) c.self.view_is
    (not-held c.self.inside.config
    (record {
      units = c.self.inside.units.items;
      homes = c.self.inside.homes.items;
      net = c.self.inside.net;
      point = c.self.inside.point;
    }) c.self.invariant.0 c.args.message.now
    (rw (← c.self.view_is) at c.requires) c.from.result c.index-unit.result.now
    (c.from.ensures ∙ c.number.ensures.same) c.index-unit.ensures (sym c.held.ensures ∙ c.if-held.false))

pub returns-in-Controller : goal.returns-in-Controller
returns-in-Controller c =
    let l = subst (λ (d : FabricData). c.args.message.now.tag ≤ (node_at d.fabric c.args.message.now.to).now) c.self.view_is
    (not-held c.self.inside.config
    (record {
      units = c.self.inside.units.items;
      homes = c.self.inside.homes.items;
      net = c.self.inside.net;
      point = c.self.inside.point;
    }) c.self.invariant.0 c.args.message.now
    (rw (← c.self.view_is) at c.requires) c.from.result c.index-unit.result.now
    (c.from.ensures ∙ c.number.ensures.same) c.index-unit.ensures (sym c.held.ensures ∙ c.if-held.false)) in (
      c.args.message.now,
      record {
        number = refl;
        come = c.requires;
        is = record { reached = l; receiver = sym c.in-Controller.ensures };
      },
    )

pub returns-in-Clock : goal.returns-in-Clock
returns-in-Clock c =
    let l = subst (λ (d : FabricData). c.args.message.now.tag ≤ (node_at d.fabric c.args.message.now.to).now) c.self.view_is
    (not-held c.self.inside.config
    (record {
      units = c.self.inside.units.items;
      homes = c.self.inside.homes.items;
      net = c.self.inside.net;
      point = c.self.inside.point;
    }) c.self.invariant.0 c.args.message.now
    (rw (← c.self.view_is) at c.requires) c.from.result c.index-unit.result.now
    (c.from.ensures ∙ c.number.ensures.same) c.index-unit.ensures (sym c.held.ensures ∙ c.if-held.false)) in (
      c.args.message.now,
      record {
        number = refl;
        come = c.requires;
        is = record { reached = l; receiver = sym c.in-Clock.ensures };
      },
    )
