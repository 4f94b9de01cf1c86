use Rattle.std.proofs.Common.{arith}
use Rattle.std.proofs.lemmas.Bool.Decides.{nat_tests}
use Rattle.route_plan.specs.Distances.{is_living}
use Rattle.route_plan.specs.Tables.{is_next}
use Rattle.route_plan.proofs.distances.is_next.Goals as goal

pub returns-then-not-has : goal.returns-then-not-has
unfolding is_next is_living
returns-then-not-has c = grind (arith, nat_tests)

pub returns-else-not-has : goal.returns-else-not-has
unfolding is_next is_living
returns-else-not-has c = grind (arith, nat_tests)
