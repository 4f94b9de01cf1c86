-- The other events of one node: an eviction, a clock edge, a report.
use Rattle.std.specs.Prelude.{ℕ, ◌+◌, ◌-◌, ◌%◌, Bool, true, false, nat_eq, min, if◌then◌else◌, List, [], ◌∷◌, length, Option, Some, None}
use Rattle.sn_base.specs.declared.event.Answer.TheVariants.{NetFull, Evicted, PutBegun, NotCached, PutOpen, MissOpen, Edged}
use Rattle.sn_base.specs.declared.event.Answer.TheVariants.{CheckpointsFull, Reported}
use Rattle.sn_msg.specs.declared.Body.TheVariants.{PutReq, Ready}
use Rattle.sn_model.specs.declared.cache.LineState.{LineState}
use Rattle.sn_model.specs.declared.cache.LineState.TheVariants.{Absent, Shared, Owned, Modified, Exclusive}
use Rattle.sn_model.specs.declared.net.News.TheVariants.{LostCopy}
use Rattle.sn_model.specs.Caches.{Miss, Put, line_of, without_line, misses_on}
use Rattle.sn_model.specs.Homes.{HomeEntry, Transaction}
use Rattle.sn_model.specs.CacheRows.{send}
use Rattle.sn_model.specs.Fabric.{Fabric, Node, FabricStep, node_at, with_node, home_node, step_refused, step_with_answer}
use Rattle.sn_model.specs.Net.{sending, is_full}
use Rattle.sn_base.specs.declared.limits.TheConstants.{CHECKPOINTS}

-- evict n b

-- the node without its copy
abbrev pub without_copy : Node → ℕ → Node
without_copy node block = record node { cache = without_line node.cache block }

-- a Shared copy is dropped at once
abbrev pub drops_copy : Fabric → ℕ → ℕ → FabricStep
drops_copy s n block = record (step_with_answer (with_node s n (without_copy (node_at s n) block)) Evicted) { told = Some (LostCopy n block) }

abbrev pub has_put : Option Put → Bool
has_put None = false
has_put (Some put) = true

abbrev pub with_put : Node → ℕ → Node
with_put node block = record node { cache = record node.cache { put = Some (record { block = block; issued = node.now }) } }

-- the owner asks the home first
abbrev pub begins_put : Fabric → ℕ → ℕ → FabricStep
begins_put s n block =
    if has_put (node_at s n).cache.put then step_refused s PutOpen
    else if is_full s 1 then step_refused s NetFull
    else sending (with_node s n (with_put (node_at s n) block)) n block (send (home_node s block) PutReq ∷ []) PutBegun

abbrev pub evicts : Fabric → ℕ → ℕ → LineState → FabricStep
evicts s n block Absent = step_refused s NotCached
evicts s n block Shared = drops_copy s n block
evicts s n block Owned = begins_put s n block
evicts s n block Modified = begins_put s n block
evicts s n block Exclusive = begins_put s n block

abbrev pub step_of_eviction : Fabric → ℕ → ℕ → FabricStep
step_of_eviction s n block =
    if misses_on (node_at s n).cache.miss block then step_refused s MissOpen
    else evicts s n block (line_of (node_at s n).cache block).state

-- edge n: the next interval begins

-- how many checkpoints a node may have above the recovery point that it knows
abbrev pub checkpoint_limit : ℕ
checkpoint_limit = CHECKPOINTS

abbrev pub after_edge : Node → Node
after_edge node = record node { now = node.now + 1 }

abbrev pub step_of_edge : Fabric → ℕ → FabricStep
step_of_edge s n =
    if nat_eq ((node_at s n).now - (node_at s n).known) checkpoint_limit then step_refused s CheckpointsFull
    else step_with_answer (with_node s n (after_edge (node_at s n))) (Edged ((node_at s n).now + 1))

-- report n: the checkpoint before which the node has completed everything

abbrev pub begun_by : ℕ → Option Transaction → ℕ
begun_by now None = now
begun_by now (Some transaction) = min now transaction.begun

-- the least interval in which a home of the node began an open transaction, from a block on; at most `now`
abbrev pub least_begun : ℕ → ℕ → ℕ → ℕ → List HomeEntry → ℕ
least_begun now nodes n block [] = now
least_begun now nodes n block (entry ∷ homes) =
    if nat_eq (block % nodes) n then begun_by (least_begun now nodes n (block + 1) homes) entry.transaction
    else least_begun now nodes n (block + 1) homes

abbrev pub issued_by : ℕ → Option Miss → ℕ
issued_by now None = now
issued_by now (Some miss) = min now miss.issued

abbrev pub put_issued_by : ℕ → Option Put → ℕ
put_issued_by now None = now
put_issued_by now (Some put) = min now put.issued

-- the least of the node's interval, of its open miss and put, and of its home's open transactions
unfoldable pub ready_of : Fabric → ℕ → ℕ
ready_of s n =
    put_issued_by (issued_by (least_begun (node_at s n).now (length s.nodes) n 0 s.homes) (node_at s n).cache.miss) (node_at s n).cache.put

abbrev pub step_of_report : Fabric → ℕ → FabricStep
step_of_report s n =
    if is_full s 1 then step_refused s NetFull
    else sending s n 0 (send 0 (Ready (ready_of s n)) ∷ []) (Reported (ready_of s n))
