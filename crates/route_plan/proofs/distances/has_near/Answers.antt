use Rattle.std.proofs.Common.{arith}
use Rattle.std.proofs.lemmas.Bool.Decides.{nat_tests}
use Rattle.route_plan.specs.Tables.{is_near}
use Rattle.route_plan.proofs.distances.has_near.Goals as goal

pub returns-then-table-from-2 : goal.returns-then-table-from-2
unfolding is_near
returns-then-table-from-2 c = grind (arith, nat_tests)

pub returns-else-table-from-2 : goal.returns-else-table-from-2
unfolding is_near
returns-else-table-from-2 c = grind (arith, nat_tests)
