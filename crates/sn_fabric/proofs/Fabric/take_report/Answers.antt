use Rattle.std.proofs.Common.{◌≡◌, refl, subst, arith}
use Rattle.std.specs.Prelude.{Some}
use Rattle.sn_base.specs.declared.event.Answer.TheVariants.{Delivered}
use Rattle.sn_model.specs.declared.net.News.TheVariants.{Ready}
use Rattle.sn_model.specs.NetEvents.{step_of_delivery}
use Rattle.sn_fabric.specs.Fabric.{FabricData}
use Rattle.sn_fabric.proofs.Parts.{kept, after-whole}
use Rattle.sn_fabric.proofs.Planned.{planned-there}
use Rattle.sn_fabric.proofs.ToNode.{report-tells, report-taken}
use Rattle.sn_fabric.proofs.Fabric.take_report.Goals as goal

pub take_out-message-requires : goal.take_out-message-requires
take_out-message-requires c =
    planned-there (record {
      units = c.self.inside.units.items;
      homes = c.self.inside.homes.items;
      net = c.self.inside.net;
      point = c.self.inside.point;
    }) c.args.id _ (rw (← c.self.view_is) at c.requires)

pub invariant_of-self : goal.invariant_of-self
invariant_of-self c =
    kept (report-taken c.self.inside.config
    (record {
      units = c.self.inside.units.items;
      homes = c.self.inside.homes.items;
      net = c.self.inside.net;
      point = c.self.inside.point;
    }) c.self.invariant.0 c.args.id c.args.k
    (rw (← c.self.view_is) at c.requires) c.take_out-message.result c.take_out-message.ensures.message
    c.take_out-message.new.net c.take_out-message.new.sent.items c.take_out-message.ensures.net c.take_out-message.ensures.sent)
    (omega (arith, c.self.invariant.1, c.take_out-message.ensures.capacity))

pub returns-clause-after : goal.returns-clause-after
returns-clause-after c =
    after-whole c.self.inside.config
    (record { units = c.self.inside.units.items; homes = c.self.inside.homes.items; net = c.self.inside.net; point = c.self.inside.point })
    (record {
      units = c.self.inside.units.items;
      homes = c.self.inside.homes.items;
      net = c.take_out-message.new.net;
      point = c.self.inside.point;
    }) c.self.inside.sent.items c.take_out-message.new.sent.items Delivered
    (λ (d : FabricData). step_of_delivery d.config d.fabric c.args.id) c.args.self.now c.self.view_is
    (report-taken c.self.inside.config
    (record {
      units = c.self.inside.units.items;
      homes = c.self.inside.homes.items;
      net = c.self.inside.net;
      point = c.self.inside.point;
    }) c.self.invariant.0 c.args.id c.args.k
    (rw (← c.self.view_is) at c.requires) c.take_out-message.result c.take_out-message.ensures.message
    c.take_out-message.new.net c.take_out-message.new.sent.items c.take_out-message.ensures.net c.take_out-message.ensures.sent)

pub returns-clause-told : goal.returns-clause-told
returns-clause-told c =
    subst (λ (d : FabricData). Some (Ready c.take_out-message.result.from c.args.k) ≡ (step_of_delivery d.config d.fabric c.args.id).told) c.self.view_is
    (report-tells c.self.inside.config
    (record {
      units = c.self.inside.units.items;
      homes = c.self.inside.homes.items;
      net = c.self.inside.net;
      point = c.self.inside.point;
    }) c.self.invariant.0 c.args.id c.args.k
    (rw (← c.self.view_is) at c.requires) c.take_out-message.result c.take_out-message.ensures.message (Ready c.take_out-message.result.from c.args.k) refl)
