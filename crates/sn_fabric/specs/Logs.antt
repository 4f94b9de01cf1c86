-- Whose entries a node's log has on the home's side: those of the blocks of its own home.
use Rattle.std.specs.Prelude.{◌≡◌, ◌≢◌, ℕ, ◌%◌, ◌<◌, true, List, length}
use Rattle.log_buffer.specs.Log.{LogEntry, logged_to}
use Rattle.sn_model.specs.Fabric.{Fabric, node_at}

-- the log of node n of so many
abbrev pub IsOwnLog : ℕ → ℕ → List LogEntry → Type 0
IsOwnLog nodes n log = (block : ℕ) → block % nodes ≢ n → logged_to log true block ≡ 0

-- each node's log
abbrev pub AreOwnLogs : Fabric → Type 0
AreOwnLogs s = (n : ℕ) → n < length s.nodes → IsOwnLog (length s.nodes) n (node_at s n).log
