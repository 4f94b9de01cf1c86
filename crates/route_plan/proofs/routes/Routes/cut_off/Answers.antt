use Rattle.std.proofs.Common.{refl, sym, ap, ◌∙◌}
use Rattle.route_plan.specs.Distances.{Switches}
use Rattle.route_plan.specs.Routes.{first_cut_off}
use Rattle.route_plan.proofs.Joined.{none-joined}
use Rattle.route_plan.proofs.routes.Routes.cut_off.Goals as goal

-- routes that were made join all nodes
pub returns-then-is_round-clause-none : goal.returns-then-is_round-clause-none
returns-then-is_round-clause-none c =
    let same = c.is_round.ensures.same c.if-is_round.true in (
      λ _. none-joined _ (rw same c.is_round.ensures.sized) (rw same c.is_round.ensures.joined),
      λ _. refl,
    )
