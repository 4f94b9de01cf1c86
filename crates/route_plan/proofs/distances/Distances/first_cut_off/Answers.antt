use Rattle.std.proofs.Common.{◌≡◌, ap, ◌∙◌, arith}
use Rattle.route_plan.specs.Routes.{cut_off_from}
use Rattle.route_plan.proofs.Steps.{pair-found, pair-none}
use Rattle.route_plan.proofs.distances.Distances.first_cut_off.Goals as goal

pub returns-in-Some : goal.returns-in-Some
returns-in-Some c =
    let e : c.in-Some.b ≡ cut_off_from c.args.self.now c.numbered-a.result = c.in-Some.ensures.some in
    rw c.numbered-a.ensures
    (pair-found c.args.self.now c.nodes.number c.in-Some.b (omega arith) c.in-Some.ensures.there c.nodes.invariant
    (e ∙ ap (λ a. cut_off_from c.args.self.now a) c.numbered-a.ensures))

pub returns : goal.returns
returns c = pair-none c.args.self.now (λ a l. c.nodes.invariant a (omega arith))
