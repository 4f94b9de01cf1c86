use Rattle.std.proofs.Common.{◌≡◌, ℕ, ◌<◌, false, leb, ◌&&◌}
use Rattle.route_plan.specs.Routes.{is_cut_off}
use Rattle.route_plan.proofs.distances.Distances.cut_off_from.Given as goal

abbrev pub invariant-nodes : goal.invariant-nodes
invariant-nodes l = (b : ℕ) → b < l.number → (leb l.a b && is_cut_off l.self l.a b) ≡ false
