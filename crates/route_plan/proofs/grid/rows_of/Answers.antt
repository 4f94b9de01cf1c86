use Rattle.std.proofs.Common.{arith}
use Rattle.route_plan.specs.Grid.{row_count}
use Rattle.route_plan.proofs.grid.rows_of.Goals as goal

pub returns : goal.returns
unfolding row_count
returns c = grind arith
