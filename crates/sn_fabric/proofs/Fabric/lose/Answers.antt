use Rattle.std.proofs.Common.{arith}
use Rattle.sn_model.specs.Fabric.{Fabric}
use Rattle.sn_model.specs.NetEvents.{step_of_loss}
use Rattle.sn_fabric.proofs.Calls.{loss-comes}
use Rattle.sn_fabric.proofs.Parts.{kept, after-view}
use Rattle.sn_fabric.proofs.Fabric.lose.Goals as goal

pub invariant_of-self : goal.invariant_of-self
invariant_of-self c =
    kept (loss-comes c.self.inside.config
    (record {
      units = c.self.inside.units.items;
      homes = c.self.inside.homes.items;
      net = c.self.inside.net;
      point = c.self.inside.point;
    }) c.args.id c.lose-found.new.self c.lose-found.result c.loss_answer.result c.clear.new.self.items c.self.invariant.0 (grind (arith, c.lose-found.ensures.there)) c.lose-found.ensures.lost c.lose-found.ensures.absent c.loss_answer.ensures c.clear.ensures.items)
    (omega (arith, c.self.invariant.1, c.clear.ensures.capacity))

pub returns : goal.returns
returns c =
    after-view c.self.inside.config
    (record { units = c.self.inside.units.items; homes = c.self.inside.homes.items; net = c.self.inside.net; point = c.self.inside.point })
    (record {
      units = c.self.inside.units.items;
      homes = c.self.inside.homes.items;
      net = c.lose-found.new.self;
      point = c.self.inside.point;
    }) c.self.inside.sent.items c.clear.new.self.items c.loss_answer.result
    (λ (s : Fabric). step_of_loss s c.args.id) c.args.self.now c.self.view_is
    (loss-comes c.self.inside.config
    (record {
      units = c.self.inside.units.items;
      homes = c.self.inside.homes.items;
      net = c.self.inside.net;
      point = c.self.inside.point;
    }) c.args.id c.lose-found.new.self c.lose-found.result c.loss_answer.result c.clear.new.self.items c.self.invariant.0 (grind (arith, c.lose-found.ensures.there)) c.lose-found.ensures.lost c.lose-found.ensures.absent c.loss_answer.ensures c.clear.ensures.items)
