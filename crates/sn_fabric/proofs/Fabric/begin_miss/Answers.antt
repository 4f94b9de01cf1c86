use Rattle.std.proofs.Common.{set, ◌∙◌, arith}
use Rattle.sn_base.specs.declared.event.Answer.TheVariants.{Missed}
use Rattle.sn_model.specs.Access.{step_of_access}
use Rattle.sn_fabric.specs.Fabric.{FabricData}
use Rattle.sn_fabric.proofs.Parts.{kept, after-whole}
use Rattle.sn_fabric.proofs.Sends.{miss-asks, miss-comes, to-home}
use Rattle.sn_fabric.proofs.Fabric.begin_miss.Goals as goal

pub begin_miss-out-requires-clause-miss : goal.begin_miss-out-requires-clause-miss
begin_miss-out-requires-clause-miss c = (
  c.index_mut-unit.result.now.log,
  miss-asks c.self.inside.config
      (record {
        units = c.self.inside.units.items;
        homes = c.self.inside.homes.items;
        net = c.self.inside.net;
        point = c.self.inside.point;
      }) c.args.node c.from.result c.args.block c.now-now.result c.args.need c.index_mut-unit.result.now c.self.invariant.0
      (rw (← c.self.view_is) at c.requires.here) (rw (← c.self.view_is) at c.requires.misses)
      (c.from.ensures ∙ c.number.ensures.same) c.index_mut-unit.ensures.value c.now-now.ensures.same,
)

pub post-requires-clause-receiver : goal.post-requires-clause-receiver
post-requires-clause-receiver c =
    rw c.begin_miss-out.ensures.out
    (to-home c.self.inside.config
    (record {
      units = c.self.inside.units.items;
      homes = c.self.inside.homes.items;
      net = c.self.inside.net;
      point = c.self.inside.point;
    }) c.args.node c.from.result c.args.block c.index_mut-unit.result.now c.self.invariant.0
    (rw (← c.self.view_is) at c.requires.here) (c.from.ensures ∙ c.number.ensures.same) c.index_mut-unit.ensures.value)

pub invariant_of-self : goal.invariant_of-self
invariant_of-self c =
    kept (miss-comes c.self.inside.config
    (record {
      units = c.self.inside.units.items;
      homes = c.self.inside.homes.items;
      net = c.self.inside.net;
      point = c.self.inside.point;
    }) c.args.node c.from.result c.args.block c.now-now.result c.args.need c.index_mut-unit.result.now
    c.begin_miss-out.new.self c.begin_miss-out.result c.post.new.net c.post.new.sent.items c.self.invariant.0
    (rw (← c.self.view_is) at c.requires.here)
    (omega (arith, c.number-number.ensures.small, c.number-number.ensures.same)) (rw (← c.self.view_is) at c.requires.misses)
    (c.from.ensures ∙ c.number.ensures.same) c.index_mut-unit.ensures.value c.now-now.ensures.same
    c.begin_miss-out.ensures.open_now c.begin_miss-out.ensures.out c.post.ensures.routes c.post.ensures.net
    (rw c.clear.ensures.items at c.post.ensures.sent))
    (omega (arith, c.self.invariant.1, c.clear.ensures.capacity, c.post.ensures.capacity))

pub returns : goal.returns
returns c =
    after-whole c.self.inside.config
    (record { units = c.self.inside.units.items; homes = c.self.inside.homes.items; net = c.self.inside.net; point = c.self.inside.point })
    (record {
      units = set c.self.inside.units.items c.from.result
          (record c.index_mut-unit.result.now { cache = c.begin_miss-out.new.self });
      homes = c.self.inside.homes.items;
      net = c.post.new.net;
      point = c.self.inside.point;
    })
    c.self.inside.sent.items c.post.new.sent.items Missed
    (λ (d : FabricData). step_of_access d.config d.fabric c.args.node c.args.block c.args.need) c.args.self.now c.self.view_is
    (miss-comes c.self.inside.config
    (record {
      units = c.self.inside.units.items;
      homes = c.self.inside.homes.items;
      net = c.self.inside.net;
      point = c.self.inside.point;
    }) c.args.node c.from.result c.args.block c.now-now.result c.args.need c.index_mut-unit.result.now
    c.begin_miss-out.new.self c.begin_miss-out.result c.post.new.net c.post.new.sent.items c.self.invariant.0
    (rw (← c.self.view_is) at c.requires.here)
    (omega (arith, c.number-number.ensures.small, c.number-number.ensures.same)) (rw (← c.self.view_is) at c.requires.misses)
    (c.from.ensures ∙ c.number.ensures.same) c.index_mut-unit.ensures.value c.now-now.ensures.same
    c.begin_miss-out.ensures.open_now c.begin_miss-out.ensures.out c.post.ensures.routes c.post.ensures.net
    (rw c.clear.ensures.items at c.post.ensures.sent))
