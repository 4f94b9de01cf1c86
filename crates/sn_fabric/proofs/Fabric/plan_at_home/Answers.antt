use Rattle.std.proofs.Common.{◌≡◌, ◌<◌, length, ◌∙◌, refl, sym, subst, arith}
use Rattle.sn_model.specs.NetEvents.{step_of_delivery}
use Rattle.sn_fabric.specs.Fabric.{FabricData}
use Rattle.sn_fabric.specs.Plans.{HasHomeRow}
use Rattle.sn_fabric.proofs.Given.{inside}
use Rattle.sn_fabric.proofs.Delivered.{refused}
use Rattle.sn_fabric.proofs.ToHome.{home-own, home-foreseen, home-row}
use Rattle.sn_fabric.proofs.Fabric.plan_at_home.Goals as goal

pub index-unit-requires : goal.index-unit-requires
index-unit-requires c =
    let h : c.args.message.now.to < length c.self.inside.units.items = inside c.self.inside.config
    (record {
      units = c.self.inside.units.items;
      homes = c.self.inside.homes.items;
      net = c.self.inside.net;
      point = c.self.inside.point;
    }) c.self.invariant.0 c.args.message.now (rw (← c.self.view_is) at c.requires.come) in
    omega (arith, h, c.from-place.ensures, c.number.ensures.same)

pub index-requires : goal.index-requires
index-requires c =
    let h : c.args.message.now.to < length c.self.inside.units.items = inside c.self.inside.config
    (record {
      units = c.self.inside.units.items;
      homes = c.self.inside.homes.items;
      net = c.self.inside.net;
      point = c.self.inside.point;
    }) c.self.invariant.0 c.args.message.now (rw (← c.self.view_is) at c.requires.come) in
    omega (arith, h, c.self.invariant.0.whole.count, c.self.invariant.0.whole.count_homes, c.from-place.ensures, c.number.ensures.same)

pub look_at-row-requires : goal.look_at-row-requires
look_at-row-requires c =
    home-own c.self.inside.config
    (record {
      units = c.self.inside.units.items;
      homes = c.self.inside.homes.items;
      net = c.self.inside.net;
      point = c.self.inside.point;
    }) c.self.invariant.0 c.args.message.now
    (rw (← c.self.view_is) at c.requires.come) c.args.asked.now
    (record { reached = (rw (← c.self.view_is) at c.requires.reached); receiver = c.requires.receiver }) c.from-place.result c.now-now.result c.index-unit.result.now
    (c.from-place.ensures ∙ c.number.ensures.same) c.index-unit.ensures c.now-now.ensures.same c.index.result.now c.index.ensures

pub returns-in-Delivered : goal.returns-in-Delivered
returns-in-Delivered c =
    let d = (home-foreseen c.self.inside.config
    (record {
      units = c.self.inside.units.items;
      homes = c.self.inside.homes.items;
      net = c.self.inside.net;
      point = c.self.inside.point;
    }) c.self.invariant.0 c.args.message.now
    (rw (← c.self.view_is) at c.requires.come) c.args.asked.now
    (record { reached = (rw (← c.self.view_is) at c.requires.reached); receiver = c.requires.receiver }) c.from-place.result c.now-now.result c.index-unit.result.now
    (c.from-place.ensures ∙ c.number.ensures.same) c.index-unit.ensures c.now-now.ensures.same c.index.result.now c.index.ensures
    c.look_at-row.result.1 c.count.result c.look_answer-answer.result c.look_at-row.ensures.look c.count.ensures.count c.look_answer-answer.ensures) in (
      c.args.message.now,
      record {
        number = refl;
        come = c.requires.come;
        is =
            subst (λ (d : FabricData). HasHomeRow d.config d.fabric c.look_at-row.result.0 c.args.message.now) c.self.view_is
            (home-row c.self.inside.config
            (record {
              units = c.self.inside.units.items;
              homes = c.self.inside.homes.items;
              net = c.self.inside.net;
              point = c.self.inside.point;
            }) c.self.invariant.0 c.args.message.now
            (rw (← c.self.view_is) at c.requires.come) c.args.asked.now
            (record { reached = (rw (← c.self.view_is) at c.requires.reached); receiver = c.requires.receiver }) c.from-place.result c.now-now.result c.index-unit.result.now
            (c.from-place.ensures ∙ c.number.ensures.same) c.index-unit.ensures c.now-now.ensures.same c.index.result.now c.index.ensures
            c.look_at-row.result.0 c.look_at-row.ensures.row (sym d ∙ c.in-Delivered.is));
      },
    )

pub returns-in_default : goal.returns-in_default
returns-in_default c =
    refused c.args.self.now.config c.args.self.now.fabric c.args.message.now.id c.look_answer-answer.result
    (subst (λ (d : FabricData). c.look_answer-answer.result ≡ (step_of_delivery d.config d.fabric c.args.message.now.id).answer) c.self.view_is
    (home-foreseen c.self.inside.config
    (record {
      units = c.self.inside.units.items;
      homes = c.self.inside.homes.items;
      net = c.self.inside.net;
      point = c.self.inside.point;
    }) c.self.invariant.0 c.args.message.now
    (rw (← c.self.view_is) at c.requires.come) c.args.asked.now
    (record { reached = (rw (← c.self.view_is) at c.requires.reached); receiver = c.requires.receiver }) c.from-place.result c.now-now.result c.index-unit.result.now
    (c.from-place.ensures ∙ c.number.ensures.same) c.index-unit.ensures c.now-now.ensures.same c.index.result.now c.index.ensures
    c.look_at-row.result.1 c.count.result c.look_answer-answer.result c.look_at-row.ensures.look c.count.ensures.count c.look_answer-answer.ensures)) c.in_default.not-Delivered
