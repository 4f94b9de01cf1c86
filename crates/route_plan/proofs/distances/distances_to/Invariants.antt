use Rattle.route_plan.specs.Tables.{IsLevel}
use Rattle.route_plan.proofs.distances.distances_to.Given as goal

abbrev pub invariant-levels : goal.invariant-levels
invariant-levels l = IsLevel (record { nodes = l.grid; dead = l.dead }) l.fn.to l.links l.table
