use Rattle.std.proofs.Common.{arith}
use Rattle.sn_model.specs.Fabric.{Fabric}
use Rattle.sn_model.specs.NetEvents.{step_of_kill}
use Rattle.sn_fabric.proofs.Calls.{kill-comes}
use Rattle.sn_fabric.proofs.Parts.{kept, after-view}
use Rattle.sn_fabric.proofs.Fabric.kill.Goals as goal

pub invariant_of-self : goal.invariant_of-self
invariant_of-self c =
    kept (kill-comes c.self.inside.config
    (record {
      units = c.self.inside.units.items;
      homes = c.self.inside.homes.items;
      net = c.self.inside.net;
      point = c.self.inside.point;
    }) c.args.switch c.kill-killed.new.self c.kill-killed.result c.kill_answer.result c.clear.new.self.items c.self.invariant.0 c.kill-killed.ensures.killed c.kill-killed.ensures.after c.kill-killed.ensures.already c.kill_answer.ensures c.clear.ensures.items)
    (omega (arith, c.self.invariant.1, c.clear.ensures.capacity))

pub returns : goal.returns
returns c =
    after-view c.self.inside.config
    (record { units = c.self.inside.units.items; homes = c.self.inside.homes.items; net = c.self.inside.net; point = c.self.inside.point })
    (record {
      units = c.self.inside.units.items;
      homes = c.self.inside.homes.items;
      net = c.kill-killed.new.self;
      point = c.self.inside.point;
    }) c.self.inside.sent.items c.clear.new.self.items c.kill_answer.result
    (λ (s : Fabric). step_of_kill s c.args.switch) c.args.self.now c.self.view_is
    (kill-comes c.self.inside.config
    (record {
      units = c.self.inside.units.items;
      homes = c.self.inside.homes.items;
      net = c.self.inside.net;
      point = c.self.inside.point;
    }) c.args.switch c.kill-killed.new.self c.kill-killed.result c.kill_answer.result c.clear.new.self.items c.self.invariant.0 c.kill-killed.ensures.killed c.kill-killed.ensures.after c.kill-killed.ensures.already c.kill_answer.ensures c.clear.ensures.items)
