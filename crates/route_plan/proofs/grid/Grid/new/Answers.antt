use Rattle.route_plan.specs.Grid.{row_count}
use Rattle.route_plan.proofs.Grids.{divisor-some, grid_made}
use Rattle.route_plan.proofs.grid.Grid.new.Goals as goal

pub nonzero_div-result : goal.nonzero_div-result
unfolding row_count
nonzero_div-result c = rw c.rows_of-rows.ensures (divisor-some c.args.nodes c.args.nodes)

pub invariant_of-result : goal.invariant_of-result
invariant_of-result c = grid_made _ _ c.requires.some c.requires.few c.rows_of-rows.ensures
