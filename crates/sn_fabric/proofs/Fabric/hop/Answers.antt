use Rattle.std.proofs.Common.{arith}
use Rattle.sn_model.specs.Fabric.{Fabric}
use Rattle.sn_model.specs.NetEvents.{step_of_hop}
use Rattle.sn_fabric.proofs.Calls.{hop-comes}
use Rattle.sn_fabric.proofs.Parts.{kept, after-view}
use Rattle.sn_fabric.proofs.Fabric.hop.Goals as goal

pub invariant_of-self : goal.invariant_of-self
invariant_of-self c =
    kept (hop-comes c.self.inside.config
    (record {
      units = c.self.inside.units.items;
      homes = c.self.inside.homes.items;
      net = c.self.inside.net;
      point = c.self.inside.point;
    }) c.args.id c.hop-answer.new.self c.hop-answer.result c.hop_answer.result c.clear.new.self.items c.self.invariant.0 c.hop-answer.ensures.after c.hop-answer.ensures.answer c.hop_answer.ensures c.clear.ensures.items)
    (omega (arith, c.self.invariant.1, c.clear.ensures.capacity))

pub returns : goal.returns
returns c =
    after-view c.self.inside.config
    (record { units = c.self.inside.units.items; homes = c.self.inside.homes.items; net = c.self.inside.net; point = c.self.inside.point })
    (record {
      units = c.self.inside.units.items;
      homes = c.self.inside.homes.items;
      net = c.hop-answer.new.self;
      point = c.self.inside.point;
    }) c.self.inside.sent.items c.clear.new.self.items c.hop_answer.result
    (λ (s : Fabric). step_of_hop s c.args.id) c.args.self.now c.self.view_is
    (hop-comes c.self.inside.config
    (record {
      units = c.self.inside.units.items;
      homes = c.self.inside.homes.items;
      net = c.self.inside.net;
      point = c.self.inside.point;
    }) c.args.id c.hop-answer.new.self c.hop-answer.result c.hop_answer.result c.clear.new.self.items c.self.invariant.0 c.hop-answer.ensures.after c.hop-answer.ensures.answer c.hop_answer.ensures c.clear.ensures.items)
