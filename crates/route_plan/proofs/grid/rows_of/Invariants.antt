use Rattle.std.proofs.Common.{◌≡◌}
use Rattle.route_plan.specs.Grid.{greatest_divisor}
use Rattle.route_plan.proofs.grid.rows_of.Given as goal

-- the greatest among the divisors that were tried
abbrev pub invariant-rows : goal.invariant-rows
invariant-rows l = l.rows ≡ greatest_divisor l.nodes l.place
