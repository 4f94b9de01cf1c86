use Rattle.std.proofs.Common.{set, ◌∙◌, arith}
use Rattle.sn_base.specs.declared.event.Answer.TheVariants.{PutBegun}
use Rattle.sn_model.specs.Fabric.{Fabric}
use Rattle.sn_model.specs.NodeEvents.{step_of_eviction}
use Rattle.sn_fabric.proofs.Evicted.{put-comes}
use Rattle.sn_fabric.proofs.Parts.{kept, after-view}
use Rattle.sn_fabric.proofs.Sends.{to-home}
use Rattle.sn_fabric.proofs.Fabric.begin_put.Goals as goal

pub post-requires-clause-receiver : goal.post-requires-clause-receiver
post-requires-clause-receiver c =
    rw c.begin_put-out.ensures.out
    (to-home c.self.inside.config
    (record {
      units = c.self.inside.units.items;
      homes = c.self.inside.homes.items;
      net = c.self.inside.net;
      point = c.self.inside.point;
    }) c.args.node c.from.result c.args.block c.index_mut-unit.result.now c.self.invariant.0
    (rw (← c.self.view_is) at c.requires.here) (c.from.ensures ∙ c.number.ensures.same) c.index_mut-unit.ensures.value)

pub invariant_of-self : goal.invariant_of-self
invariant_of-self c =
    kept (put-comes c.self.inside.config
    (record {
      units = c.self.inside.units.items;
      homes = c.self.inside.homes.items;
      net = c.self.inside.net;
      point = c.self.inside.point;
    }) c.args.node c.from.result c.args.block c.now-now.result c.index_mut-unit.result.now c.begin_put-out.new.self c.begin_put-out.result c.post.new.net c.post.new.sent.items
    c.self.invariant.0 (rw (← c.self.view_is) at c.requires.here)
    (omega (arith, c.number-number.ensures.small, c.number-number.ensures.same)) (rw (← c.self.view_is) at c.requires.puts)
    (c.from.ensures ∙ c.number.ensures.same) c.index_mut-unit.ensures.value c.now-now.ensures.same
    c.begin_put-out.ensures.open_now c.begin_put-out.ensures.out c.post.ensures.routes c.post.ensures.net
    (rw c.clear.ensures.items at c.post.ensures.sent))
    (omega (arith, c.self.invariant.1, c.clear.ensures.capacity, c.post.ensures.capacity))

pub returns : goal.returns
returns c =
    after-view c.self.inside.config
    (record { units = c.self.inside.units.items; homes = c.self.inside.homes.items; net = c.self.inside.net; point = c.self.inside.point })
    (record {
      units = set c.self.inside.units.items c.from.result (record c.index_mut-unit.result.now { cache = c.begin_put-out.new.self });
      homes = c.self.inside.homes.items;
      net = c.post.new.net;
      point = c.self.inside.point;
    })
    c.self.inside.sent.items c.post.new.sent.items PutBegun
    (λ (s : Fabric). step_of_eviction s c.args.node c.args.block) c.args.self.now c.self.view_is
    (put-comes c.self.inside.config
    (record {
      units = c.self.inside.units.items;
      homes = c.self.inside.homes.items;
      net = c.self.inside.net;
      point = c.self.inside.point;
    }) c.args.node c.from.result c.args.block c.now-now.result c.index_mut-unit.result.now c.begin_put-out.new.self c.begin_put-out.result c.post.new.net c.post.new.sent.items
    c.self.invariant.0 (rw (← c.self.view_is) at c.requires.here)
    (omega (arith, c.number-number.ensures.small, c.number-number.ensures.same)) (rw (← c.self.view_is) at c.requires.puts)
    (c.from.ensures ∙ c.number.ensures.same) c.index_mut-unit.ensures.value c.now-now.ensures.same
    c.begin_put-out.ensures.open_now c.begin_put-out.ensures.out c.post.ensures.routes c.post.ensures.net
    (rw c.clear.ensures.items at c.post.ensures.sent))
