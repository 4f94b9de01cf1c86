use Rattle.std.proofs.Common.{subst}
use Rattle.sn_fabric.specs.Plans.{IsPlan}
use Rattle.sn_fabric.proofs.Delivered.{refused-after, refused-tells}
use Rattle.sn_fabric.proofs.Fabric.carry_out.Goals as goal

pub give_to_cache-told-requires-clause-plan : goal.give_to_cache-told-requires-clause-plan
give_to_cache-told-requires-clause-plan c = subst (IsPlan c.args.self.now.config c.args.self.now.fabric c.args.id) c.in-AtCache.is c.requires.plan

pub give_to_home-requires-clause-plan : goal.give_to_home-requires-clause-plan
give_to_home-requires-clause-plan c = subst (IsPlan c.args.self.now.config c.args.self.now.fabric c.args.id) c.in-AtHome.is c.requires.plan

pub take_report-told-requires : goal.take_report-told-requires
take_report-told-requires c = subst (IsPlan c.args.self.now.config c.args.self.now.fabric c.args.id) c.in-Reports.is c.requires.plan

pub learn-told-requires : goal.learn-told-requires
learn-told-requires c = subst (IsPlan c.args.self.now.config c.args.self.now.fabric c.args.id) c.in-Tells.is c.requires.plan

pub returns-in-Refuses : goal.returns-in-Refuses
returns-in-Refuses c =
    let is = subst (IsPlan c.args.self.now.config c.args.self.now.fabric c.args.id) c.in-Refuses.is c.requires.plan in
    record {
      after = refused-after c.args.self.now c.send_nothing.new.self c.args.id c.in-Refuses.answer is c.send_nothing.ensures;
      told = refused-tells c.args.self.now c.send_nothing.new.self c.args.id c.in-Refuses.answer is;
    }
