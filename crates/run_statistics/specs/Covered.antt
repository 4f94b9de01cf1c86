-- What is known of a node's greatest numbers, whatever the last event was: they are no less than what the node has now. So where an event
-- leaves a node as it was, they need no look.
use Rattle.std.specs.Prelude.{◌≡◌, ℕ, ◌<◌, ◌≤◌, false, List, length, slice_index}
use Rattle.sn_model.specs.Fabric.{Fabric}
use Rattle.run_statistics.specs.declared.reach.Reach.{Reach}
use Rattle.run_statistics.specs.declared.statistics.Statistics.{Statistics}
use Rattle.run_statistics.specs.Logs.{entries_of, checkpoints_of}
use Rattle.run_statistics.specs.Owned.{owned_blocks, is_reached}

-- numbers by node, one of each, that are no less than these, but of nodes that are reached
abbrev pub CoversOthers : (ℕ → ℕ) → ℕ → Reach → List ℕ → Type 0
CoversOthers other nodes reach numbers =
    (nodes ≤ length numbers) × ((n : ℕ) → n < nodes → is_reached reach n ≡ false → other n ≤ slice_index numbers n)

-- so it is of all greatest numbers
pub record AreCovered (x : Statistics) (nodes : ℕ) (s : Fabric) (reach : Reach) : Type 0 where
  pub entries : CoversOthers (entries_of s) nodes reach x.logs.most_entries
  pub checkpoints : CoversOthers (checkpoints_of s) nodes reach x.logs.most_checkpoints
  pub owned : CoversOthers (owned_blocks s) nodes reach x.most_owned
