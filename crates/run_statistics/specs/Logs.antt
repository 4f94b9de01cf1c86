-- How full the logs were, and how many checkpoints were open.
use Rattle.std.specs.Prelude.{ℕ, ◌-◌, length}
use Rattle.sn_model.specs.Fabric.{Fabric, node_at}
use Rattle.run_statistics.specs.declared.logs.LogStatistics.{LogStatistics}
use Rattle.run_statistics.specs.Numbers.{with_greatest_below, no_numbers}

abbrev pub no_logs : LogStatistics
no_logs = record { most_entries = no_numbers; most_checkpoints = no_numbers }

-- how many entries a node's log has
abbrev pub entries_of : Fabric → ℕ → ℕ
entries_of s n = length (node_at s n).log

-- how many checkpoints a node has above the recovery point that it knows
abbrev pub checkpoints_of : Fabric → ℕ → ℕ
checkpoints_of s n = (node_at s n).now - (node_at s n).known

-- after an event that left this fabric of so many nodes
abbrev pub logs_with : LogStatistics → ℕ → Fabric → LogStatistics
logs_with x nodes s = record {
  most_entries = with_greatest_below (entries_of s) nodes x.most_entries;
  most_checkpoints = with_greatest_below (checkpoints_of s) nodes x.most_checkpoints;
}
