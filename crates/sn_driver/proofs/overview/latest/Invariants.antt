use Rattle.std.proofs.Common.{◌≡◌, ℕ, ◌<◌, ◌≤◌}
use Rattle.sn_model.specs.Fabric.{node_at}
use Rattle.sn_driver.proofs.overview.latest.Given as goal

-- none of the first nodes is beyond it, and one of them is there
abbrev pub invariant-nodes : goal.invariant-nodes
invariant-nodes l = record {
  above : (k : ℕ) → k < l.number → (node_at l.machine.state.fabric k).now ≤ l.latest;
  one : (k : ℕ) × (k < l.machine.config.nodes) × ((node_at l.machine.state.fabric k).now ≡ l.latest);
}
