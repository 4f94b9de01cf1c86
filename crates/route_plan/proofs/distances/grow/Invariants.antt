use Rattle.route_plan.proofs.Growth.{Grown}
use Rattle.route_plan.proofs.distances.grow.Given as goal

abbrev pub invariant-switches : goal.invariant-switches
invariant-switches l = Grown (record { nodes = l.grid; dead = l.dead }) l.links l.switch l.before l.table l.grew
