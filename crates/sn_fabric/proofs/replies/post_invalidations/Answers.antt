use Rattle.std.proofs.Common.{◌≡◌, ◌∙◌, ap, List, length, length-append, arith}
use Rattle.sn_model.specs.declared.cache.Out.{Out}
use Rattle.sn_fabric.specs.Deliveries.{invalidation, invalidations_below, outs_of}
use Rattle.sn_fabric.specs.Nets.{net_as}
use Rattle.sn_fabric.proofs.Outs.{then-net, then-sent, below-next, below-goes, below-fits}
use Rattle.sn_fabric.proofs.replies.post_invalidations.Goals as goal

pub post_one-requires-clause-room : goal.post_one-requires-clause-room
post_one-requires-clause-room c =
    rw (c.invalidation-out.ensures, c.numbered.ensures)
    (let h = below-fits c.args.set c.args.r c.nodes.number 16 c.nodes-test.true in
    omega (arith, h, c.nodes.invariant.flights, c.requires.room))

pub post_one-requires-clause-receivers : goal.post_one-requires-clause-receivers
post_one-requires-clause-receivers c =
    rw (c.invalidation-out.ensures, c.numbered.ensures, c.nodes.invariant.routes)
    (below-goes c.args.set c.args.r c.nodes.number 16 c.args.net.now.routes.nodes c.nodes-test.true c.requires.receivers)

pub nodes-preserved : goal.nodes-preserved
nodes-preserved c =
    let e : outs_of c.invalidation-out.result
    ≡ outs_of (invalidation c.args.set c.args.r c.nodes.number) = ap outs_of
    (c.invalidation-out.ensures ∙ ap (invalidation c.args.set c.args.r) c.numbered.ensures) in
    let l : length (outs_of c.invalidation-out.result)
    ≡ length (outs_of (invalidation c.args.set c.args.r c.nodes.number)) = ap (λ (xs : List Out). length xs) e in
    rw (below-next c.args.set c.args.r c.nodes.number)
    (record {
      net =
          then-net c.args.net.now.routes c.nodes.net.routes (net_as c.args.net.now) (net_as c.nodes.net)
          (net_as c.post_one.new.net) c.args.from c.args.tag c.args.block (invalidations_below c.args.set c.args.r c.nodes.number)
          (outs_of (invalidation c.args.set c.args.r c.nodes.number)) c.nodes.invariant.routes c.nodes.invariant.net
          (rw e at c.post_one.ensures.net);
      routes = c.post_one.ensures.routes ∙ c.nodes.invariant.routes;
      sent =
          then-sent c.args.net.now.routes c.nodes.net.routes (net_as c.args.net.now)
          (net_as c.nodes.net) c.args.sent.now.items c.nodes.sent.items c.post_one.new.sent.items c.args.from c.args.tag c.args.block
          (invalidations_below c.args.set c.args.r c.nodes.number)
          (outs_of (invalidation c.args.set c.args.r c.nodes.number)) c.nodes.invariant.routes c.nodes.invariant.net c.nodes.invariant.sent
          (rw e at c.post_one.ensures.sent);
      count = omega (arith, c.post_one.ensures.count, c.nodes.invariant.count);
      flights =
          omega (
            arith,
            l,
            length-append (invalidations_below c.args.set c.args.r c.nodes.number)
                (outs_of (invalidation c.args.set c.args.r c.nodes.number)),
            c.post_one.ensures.flights,
            c.nodes.invariant.flights,
          );
      next = omega (arith, c.post_one.ensures.next, c.nodes.invariant.next);
      capacity = omega (arith, c.post_one.ensures.capacity, c.nodes.invariant.capacity);
    })
