use Rattle.std.proofs.Common.{◌≡◌, ℕ, ◌<◌, [], length, get_or}
use Rattle.route_plan.specs.Tables.{IsTable}
use Rattle.route_plan.proofs.distances.all_distances.Given as goal

-- the tables of the nodes so far
abbrev pub invariant-nodes : goal.invariant-nodes
invariant-nodes l = record {
  long : length l.tables ≡ 16;
  all : (to : ℕ) → to < l.to → IsTable (record { nodes = l.grid; dead = l.dead }) to (get_or l.tables to []);
}
