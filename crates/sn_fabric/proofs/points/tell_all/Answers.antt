use Rattle.std.proofs.Common.{ap, ◌∙◌, arith}
use Rattle.sn_msg.specs.declared.Body.TheVariants.{Advance}
use Rattle.sn_model.specs.CacheRows.{send}
use Rattle.sn_fabric.specs.Nets.{net_as}
use Rattle.sn_fabric.proofs.Posts.{tell-net, tell-sent}
use Rattle.sn_fabric.proofs.points.tell_all.Goals as goal

pub nodes-preserved : goal.nodes-preserved
nodes-preserved c = record {
  net =
      tell-net c.args.net.now.routes c.nodes.net.routes (net_as c.args.net.now) (net_as c.nodes.net)
      (net_as c.post.new.net) c.numbered-from.result c.args.tag c.new-block.result c.args.k c.nodes.number
      (send c.numbered.result (Advance c.args.k)) c.nodes.invariant.routes c.nodes.invariant.net c.numbered-from.ensures c.new-block.ensures
      (ap (λ t. send t (Advance c.args.k)) c.numbered.ensures) c.post.ensures.net;
  routes = c.post.ensures.routes ∙ c.nodes.invariant.routes;
  sent =
      tell-sent c.args.net.now.routes c.nodes.net.routes (net_as c.args.net.now)
      (net_as c.nodes.net) c.args.sent.now.items c.nodes.sent.items c.post.new.sent.items c.numbered-from.result c.args.tag c.new-block.result c.args.k c.nodes.number
      (send c.numbered.result (Advance c.args.k)) c.nodes.invariant.routes c.nodes.invariant.net c.numbered-from.ensures c.new-block.ensures
      (ap (λ t. send t (Advance c.args.k)) c.numbered.ensures) c.nodes.invariant.sent c.post.ensures.sent;
  count = omega (arith, c.post.ensures.count, c.nodes.invariant.count);
  flights = omega (arith, c.post.ensures.flights, c.nodes.invariant.flights);
  next = omega (arith, c.post.ensures.next, c.nodes.invariant.next);
  capacity = omega (arith, c.post.ensures.capacity, c.nodes.invariant.capacity);
}
