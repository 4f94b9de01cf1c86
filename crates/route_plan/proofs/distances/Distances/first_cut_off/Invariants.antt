use Rattle.std.proofs.Common.{◌≡◌, ℕ, ◌<◌}
use Rattle.route_plan.specs.Routes.{cut_off_from}
use Rattle.route_plan.proofs.distances.Distances.first_cut_off.Given as goal

abbrev pub invariant-nodes : goal.invariant-nodes
invariant-nodes l = (a : ℕ) → a < l.number → cut_off_from l.self a ≡ l.self.nodes
