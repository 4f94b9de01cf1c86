use Rattle.std.proofs.Common.{◌∙◌, arith}
use Rattle.sn_base.specs.declared.event.Answer.TheVariants.{Reported}
use Rattle.sn_model.specs.Fabric.{Fabric}
use Rattle.sn_model.specs.NodeEvents.{step_of_report}
use Rattle.sn_fabric.proofs.Parts.{kept, after-view}
use Rattle.sn_fabric.proofs.Reported.{report-comes}
use Rattle.sn_fabric.proofs.Fabric.send_report.Goals as goal

pub invariant_of-self : goal.invariant_of-self
invariant_of-self c =
    kept (report-comes c.self.inside.config
    (record {
      units = c.self.inside.units.items;
      homes = c.self.inside.homes.items;
      net = c.self.inside.net;
      point = c.self.inside.point;
    }) c.args.node c.from.result c.now-now.result c.args.ready c.index-unit.result.now c.post.new.net c.post.new.sent.items c.self.invariant.0
    (rw (← c.self.view_is) at c.requires.here) (rw (← c.self.view_is) at c.requires.spare) (rw (← c.self.view_is) at c.requires.ready)
    (c.from.ensures ∙ c.number.ensures.same) c.index-unit.ensures c.now-now.ensures.same c.post.ensures.routes
    (rw (c.controller.ensures, c.new-block.ensures) at c.post.ensures.net)
    (rw (c.clear.ensures.items, c.controller.ensures, c.new-block.ensures) at c.post.ensures.sent))
    (omega (arith, c.self.invariant.1, c.clear.ensures.capacity, c.post.ensures.capacity))

pub returns : goal.returns
returns c =
    after-view c.self.inside.config
    (record { units = c.self.inside.units.items; homes = c.self.inside.homes.items; net = c.self.inside.net; point = c.self.inside.point })
    (record { units = c.self.inside.units.items; homes = c.self.inside.homes.items; net = c.post.new.net; point = c.self.inside.point })
    c.self.inside.sent.items c.post.new.sent.items (Reported c.args.ready)
    (λ (s : Fabric). step_of_report s c.args.node) c.args.self.now c.self.view_is
    (report-comes c.self.inside.config
    (record {
      units = c.self.inside.units.items;
      homes = c.self.inside.homes.items;
      net = c.self.inside.net;
      point = c.self.inside.point;
    }) c.args.node c.from.result c.now-now.result c.args.ready c.index-unit.result.now c.post.new.net c.post.new.sent.items c.self.invariant.0
    (rw (← c.self.view_is) at c.requires.here) (rw (← c.self.view_is) at c.requires.spare) (rw (← c.self.view_is) at c.requires.ready)
    (c.from.ensures ∙ c.number.ensures.same) c.index-unit.ensures c.now-now.ensures.same c.post.ensures.routes
    (rw (c.controller.ensures, c.new-block.ensures) at c.post.ensures.net)
    (rw (c.clear.ensures.items, c.controller.ensures, c.new-block.ensures) at c.post.ensures.sent))
