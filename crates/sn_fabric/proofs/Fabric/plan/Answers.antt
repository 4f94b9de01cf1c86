use Rattle.std.proofs.Common.{◌≡◌, ℕ, ◌∙◌, ap, sym, subst}
use Rattle.sn_model.specs.Fabric.{step_refused}
use Rattle.sn_model.specs.NetEvents.{step_of_delivery}
use Rattle.sn_fabric.specs.Deliveries.{HasCome}
use Rattle.sn_fabric.specs.Fabric.{FabricData}
use Rattle.sn_fabric.specs.Parts.{fabric_as}
use Rattle.sn_fabric.specs.Plans.{IsPlan}
use Rattle.sn_fabric.proofs.Come.{come-shown, fault-shown}
use Rattle.sn_fabric.proofs.Fabric.plan.Goals as goal

pub plan_message-requires : goal.plan_message-requires
plan_message-requires c =
    subst (λ (d : FabricData). HasCome d.fabric c.in-Ok.message.now) c.self.view_is
    (come-shown (record {
      units = c.self.inside.units.items;
      homes = c.self.inside.homes.items;
      net = c.self.inside.net;
      point = c.self.inside.point;
    }) c.args.id c.in-Ok.message.now c.in-Ok.ensures.message).0

pub returns-in-Ok : goal.returns-in-Ok
returns-in-Ok c =
    subst (λ (i : ℕ). IsPlan c.args.self.now.config c.args.self.now.fabric i c.plan_message.result)
    (come-shown (record {
      units = c.self.inside.units.items;
      homes = c.self.inside.homes.items;
      net = c.self.inside.net;
      point = c.self.inside.point;
    }) c.args.id c.in-Ok.message.now c.in-Ok.ensures.message).1 c.plan_message.ensures

pub returns-in-Err : goal.returns-in-Err
returns-in-Err c =
    subst (λ (d : FabricData). step_of_delivery d.config d.fabric c.args.id ≡ step_refused d.fabric c.fault_answer.result) c.self.view_is
    (fault-shown c.self.inside.config
    (record {
      units = c.self.inside.units.items;
      homes = c.self.inside.homes.items;
      net = c.self.inside.net;
      point = c.self.inside.point;
    }) c.args.id c.in-Err.fault c.in-Err.ensures.fault
    ∙ ap (step_refused (fabric_as (record {
      units = c.self.inside.units.items;
      homes = c.self.inside.homes.items;
      net = c.self.inside.net;
      point = c.self.inside.point;
    }))) (sym c.fault_answer.ensures))
