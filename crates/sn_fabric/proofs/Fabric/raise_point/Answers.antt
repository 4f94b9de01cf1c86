use Rattle.std.proofs.Common.{arith}
use Rattle.sn_base.specs.declared.event.Answer.TheVariants.{Validated}
use Rattle.sn_model.specs.Fabric.{Fabric}
use Rattle.sn_model.specs.PointEvents.{step_of_advance}
use Rattle.sn_fabric.proofs.Parts.{kept, after-view}
use Rattle.sn_fabric.proofs.Raised.{point-comes}
use Rattle.sn_fabric.proofs.Fabric.raise_point.Goals as goal

pub invariant_of-self : goal.invariant_of-self
invariant_of-self c =
    kept (point-comes c.self.inside.config
    (record {
      units = c.self.inside.units.items;
      homes = c.self.inside.homes.items;
      net = c.self.inside.net;
      point = c.self.inside.point;
    }) c.now-now.result c.args.k c.index-unit.result.now c.tell_all.new.net c.tell_all.new.sent.items c.self.invariant.0
    (rw (← c.self.view_is) at c.requires.next) (rw (← c.self.view_is) at c.requires.finished)
    (rw (← c.self.view_is) at c.requires.room) c.index-unit.ensures c.now-now.ensures.same
    c.tell_all.ensures.routes c.tell_all.ensures.net (rw c.clear.ensures.items at c.tell_all.ensures.sent))
    (omega (arith, c.self.invariant.1, c.clear.ensures.capacity, c.tell_all.ensures.capacity))

pub returns : goal.returns
returns c =
    after-view c.self.inside.config
    (record { units = c.self.inside.units.items; homes = c.self.inside.homes.items; net = c.self.inside.net; point = c.self.inside.point })
    (record { units = c.self.inside.units.items; homes = c.self.inside.homes.items; net = c.tell_all.new.net; point = c.args.k })
    c.self.inside.sent.items c.tell_all.new.sent.items (Validated c.args.k)
    (λ (s : Fabric). step_of_advance s c.args.k) c.args.self.now c.self.view_is
    (point-comes c.self.inside.config
    (record {
      units = c.self.inside.units.items;
      homes = c.self.inside.homes.items;
      net = c.self.inside.net;
      point = c.self.inside.point;
    }) c.now-now.result c.args.k c.index-unit.result.now c.tell_all.new.net c.tell_all.new.sent.items c.self.invariant.0
    (rw (← c.self.view_is) at c.requires.next) (rw (← c.self.view_is) at c.requires.finished)
    (rw (← c.self.view_is) at c.requires.room) c.index-unit.ensures c.now-now.ensures.same
    c.tell_all.ensures.routes c.tell_all.ensures.net (rw c.clear.ensures.items at c.tell_all.ensures.sent))
