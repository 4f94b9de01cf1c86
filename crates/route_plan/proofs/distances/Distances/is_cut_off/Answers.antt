use Rattle.std.proofs.Common.{arith}
use Rattle.std.proofs.lemmas.Bool.Decides.{nat_tests}
use Rattle.route_plan.specs.Routes.{is_cut_off}
use Rattle.route_plan.proofs.distances.Distances.is_cut_off.Goals as goal

pub returns-then-get-eq-APART : goal.returns-then-get-eq-APART
unfolding is_cut_off
returns-then-get-eq-APART c = grind (arith, nat_tests)

pub returns-else-get-eq-APART : goal.returns-else-get-eq-APART
unfolding is_cut_off
returns-else-get-eq-APART c = grind (arith, nat_tests)
