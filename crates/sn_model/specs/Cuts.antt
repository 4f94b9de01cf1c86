-- What the fabric has at a cut: the content and the name that a log says a block had at checkpoint k, or what stands now;
-- and what is unfinished before it.
use Rattle.std.specs.Prelude.{ℕ, Bool, true, false, ◌||◌, nat_lt, List, Option, Some, None}
use Rattle.std.specs.List.{list_any}
use Rattle.sn_base.specs.declared.log.Old.{Old}
use Rattle.sn_base.specs.declared.log.Old.TheVariants.{NotOwned, Owned, WasHome, WasCache}
use Rattle.log_buffer.specs.Log.{old_at}
use Rattle.sn_model.specs.declared.cache.LineState.{LineState}
use Rattle.sn_model.specs.declared.cache.LineState.TheVariants.{Absent, Shared, Owned as InOwned, Modified, Exclusive}
use Rattle.sn_model.specs.Caches.{Line, Miss, Put, line_of}
use Rattle.sn_model.specs.Homes.{Holder, Itself, OfCache, Transaction}
use Rattle.sn_model.specs.Fabric.{Fabric, Node, node_at, home_of, home_node}

-- a cache that owns a line now, with its content
abbrev pub owned_content : Line → LineState → Option (List ℕ)
owned_content line Absent = None
owned_content line Shared = None
owned_content line InOwned = Some line.content
owned_content line Modified = Some line.content
owned_content line Exclusive = Some line.content

-- by the entry at or after the cut, or by what stands now
abbrev pub held_by : Option Old → Line → Option (List ℕ)
held_by None line = owned_content line line.state
held_by (Some NotOwned) line = None
held_by (Some (Owned content)) line = Some content
held_by (Some (WasHome content)) line = None
held_by (Some (WasCache node)) line = None

-- what cache n holds of a block at cut k
abbrev pub holds_at : Fabric → ℕ → ℕ → ℕ → Option (List ℕ)
holds_at s n block k = held_by (old_at (node_at s n).log false block k) (line_of (node_at s n).cache block)

abbrev pub named_by : Option Old → Holder → Holder
named_by None holder = holder
named_by (Some NotOwned) holder = holder
named_by (Some (Owned content)) holder = holder
named_by (Some (WasHome content)) holder = Itself content
named_by (Some (WasCache node)) holder = OfCache node

-- whom the home of a block names at cut k: itself with a content, or a cache
abbrev pub names_at : Fabric → ℕ → ℕ → Holder
names_at s block k = named_by (old_at (node_at s (home_node s block)).log true block k) (home_of s block).holder

-- a cache's miss or put, or a home's transaction, that began in an interval below k
abbrev pub miss_before : Option Miss → ℕ → Bool
miss_before None k = false
miss_before (Some miss) k = nat_lt miss.issued k

abbrev pub put_before : Option Put → ℕ → Bool
put_before None k = false
put_before (Some put) k = nat_lt put.issued k

abbrev pub transaction_before : Option Transaction → ℕ → Bool
transaction_before None k = false
transaction_before (Some transaction) k = nat_lt transaction.begun k

abbrev pub unfinished_node : Node → ℕ → Bool
unfinished_node node k = miss_before node.cache.miss k || put_before node.cache.put k

-- whether a transaction is unfinished before checkpoint k: its requester or its home began it in an earlier interval, and
-- it is open
unfoldable pub is_unfinished : Fabric → ℕ → Bool
is_unfinished s k = list_any (λ node. unfinished_node node k) s.nodes || list_any (λ entry. transaction_before entry.transaction k) s.homes
