use Rattle.std.proofs.Common.{sym, ap, ◌∙◌, arith}
use Rattle.route_plan.specs.Routes.{is_cut_off}
use Rattle.route_plan.proofs.Steps.{cut_off-found, cut_off-none}
use Rattle.route_plan.proofs.distances.Distances.cut_off_from.Goals as goal

pub returns-then-is_cut_off-clause-some : goal.returns-then-is_cut_off-clause-some
returns-then-is_cut_off-clause-some c =
    c.numbered-b.ensures ∙ cut_off-found c.args.self.now c.args.a c.nodes.number (omega arith) (omega arith) c.nodes.invariant
    (ap (λ b. is_cut_off c.args.self.now c.args.a b) (sym c.numbered-b.ensures) ∙ (sym c.is_cut_off.ensures ∙ c.if-is_cut_off.true))

pub returns-clause-none : goal.returns-clause-none
returns-clause-none c = λ e. cut_off-none c.args.self.now c.args.a (λ b l. c.nodes.invariant b (omega arith))
