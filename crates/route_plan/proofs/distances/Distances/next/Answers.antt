use Rattle.std.proofs.Common.{ap}
use Rattle.route_plan.specs.Distances.{Switches}
use Rattle.route_plan.proofs.Steps.{nearest-by, next-some, next-none}
use Rattle.route_plan.proofs.distances.Distances.next.Goals as goal

pub returns-then-next-nodes : goal.returns-then-next-nodes
returns-then-next-nodes c =
    rw c.switch_of.ensures (next-some c.args.self.now c.args.to c.args.at c.min-next.result c.nodes.ensures.sized c.requires.there
    (nearest-by c.args.self.now c.args.to c.args.at c.self.inside.grid c.get-links.result _ _ _ _ _ c.neighbours.result
    (ap (λ (m : Switches). m.nodes) c.self.view_is)
    c.get-links.ensures.value c.neighbours.ensures.neighbours c.if_nearer.ensures c.if_nearer-2.ensures c.if_nearer-3.ensures c.min.ensures c.min-next.ensures)
    (rw (← c.nodes.ensures.same) c.if-next-nodes.true))

pub returns-else-next-nodes : goal.returns-else-next-nodes
returns-else-next-nodes c =
    next-none c.args.self.now c.args.to c.args.at c.min-next.result c.nodes.ensures.sized c.requires.there
    (nearest-by c.args.self.now c.args.to c.args.at c.self.inside.grid c.get-links.result _ _ _ _ _ c.neighbours.result
    (ap (λ (m : Switches). m.nodes) c.self.view_is)
    c.get-links.ensures.value c.neighbours.ensures.neighbours c.if_nearer.ensures c.if_nearer-2.ensures c.if_nearer-3.ensures c.min.ensures c.min-next.ensures)
    (rw (← c.nodes.ensures.same) c.if-next-nodes.false)
