-- An access of a node to a block: whether its line serves it now, or what it comes to else; and a write to a line.
use Rattle.std.specs.Prelude.{ℕ, ◌-◌, ◌*◌, ◌/◌, ◌%◌, Bool, true, false, not, ◌&&◌, nat_lt, nat_le, if◌then◌else◌, List, [], ◌∷◌, length}
use Rattle.std.specs.Prelude.{drop, Option, Some, None}
use Rattle.byteorder.specs.Endian.{little_number, little_bytes}
use Rattle.sn_base.specs.Blocks.{ram_start, bytes_of, stored_in}
use Rattle.sn_base.specs.declared.block.Write.{Write}
use Rattle.sn_base.specs.declared.config.Config.{Config}
use Rattle.sn_base.specs.declared.event.Answer.TheVariants.{Retired, Missed, Waits, NeedsEvict, LogFull, NetFull}
use Rattle.sn_base.specs.declared.log.Old.TheVariants.{Owned as WasOwned}
use Rattle.sn_msg.specs.declared.Body.{Body}
use Rattle.sn_msg.specs.declared.Body.TheVariants.{GetS, GetM}
use Rattle.log_buffer.specs.Log.{log_with_note}
use Rattle.rv_core.specs.Core.{block_of}
use Rattle.sn_model.specs.declared.cache.LineState.{LineState}
use Rattle.sn_model.specs.declared.cache.LineState.TheVariants.{Modified}
use Rattle.sn_model.specs.declared.cache.Need.{Need}
use Rattle.sn_model.specs.declared.cache.Need.TheVariants.{Read, Write as ToWrite}
use Rattle.sn_model.specs.Caches.{Cache, Miss, line_of, with_line, is_present, is_writable_state, puts_on, frames_taken}
use Rattle.sn_model.specs.CacheRows.{send}
use Rattle.sn_model.specs.Fabric.{Fabric, Node, FabricStep, node_at, with_node, home_node, step_refused, step_with_answer}
use Rattle.sn_model.specs.Net.{sending, is_full}

-- the place in its block of an address
abbrev pub place_in_block : ℕ → ℕ
place_in_block address = (address - ram_start) % 64

-- the aligned word of a block's content that holds an address
abbrev pub word_in : List ℕ → ℕ → ℕ
word_in content address = little_number 4 (drop (place_in_block address / 4 * 4) content)

-- a block's content after a write
abbrev pub written_in : List ℕ → Write → List ℕ
written_in content w = stored_in content (place_in_block w.address) (little_bytes (bytes_of w.width) w.value)

-- the word that an access of a node finds
abbrev pub word_found : Fabric → ℕ → ℕ → ℕ
word_found s n address = word_in (line_of (node_at s n).cache (block_of address)).content address

-- a write: the content is noted once an interval, the line is Modified, and then it has what is written

abbrev pub node_to_write : Node → ℕ → Node
node_to_write node block = record node {
  cache = with_line node.cache block Modified (line_of node.cache block).content;
  log = log_with_note node.log node.now block (WasOwned (line_of node.cache block).content);
}

abbrev pub written_to : Cache → Write → Cache
written_to cache w =
    with_line cache (block_of w.address) (line_of cache (block_of w.address)).state
    (written_in (line_of cache (block_of w.address)).content w)

abbrev pub with_write : Node → Write → Node
with_write node w = record (node_to_write node (block_of w.address)) { cache = written_to (node_to_write node (block_of w.address)).cache w }

abbrev pub fabric_with_write : Fabric → ℕ → Write → Fabric
fabric_with_write s n w = with_node s n (with_write (node_at s n) w)

-- a miss: a request goes to the block's home

abbrev pub request_for : Need → Body
request_for Read = GetS
request_for ToWrite = GetM

abbrev pub new_miss : ℕ → Need → ℕ → Miss
new_miss block need now = record { block = block; need = need; issued = now; fixed = None; due = 0; acks = 0 }

abbrev pub missing : Node → ℕ → Need → Node
missing node block need = record node { cache = record node.cache { miss = Some (new_miss block need node.now) } }

abbrev pub step_of_miss : Fabric → ℕ → ℕ → Need → FabricStep
step_of_miss s n block need =
    sending (with_node s n (missing (node_at s n) block need)) n block (send (home_node s block) (request_for need) ∷ []) Missed

abbrev pub misses : Config → Fabric → ℕ → ℕ → Need → FabricStep
misses config s n block need =
    if not (is_present (line_of (node_at s n).cache block).state)
    && nat_le config.ways (frames_taken (node_at s n).cache config.sets block) then step_refused s NeedsEvict
    else if is_full s 1 then step_refused s NetFull
    else step_of_miss s n block need

-- the tests in their order; an access that its line serves is Retired, and changes nothing

abbrev pub has_miss : Option Miss → Bool
has_miss None = false
has_miss (Some miss) = true

abbrev pub serves : Need → LineState → Bool
serves Read state = is_present state
serves ToWrite state = is_writable_state state

-- whether the log lacks the room for what a write notes; a read notes nothing
abbrev pub lacks_room : Config → Node → ℕ → Need → Bool
lacks_room config node block Read = false
lacks_room config node block ToWrite = nat_lt config.log (length (node_to_write node block).log)

abbrev pub accesses : Config → Fabric → ℕ → ℕ → Need → FabricStep
accesses config s n block need =
    if puts_on (node_at s n).cache.put block then step_refused s Waits
    else if serves need (line_of (node_at s n).cache block).state
    then (if lacks_room config (node_at s n) block need then step_refused s LogFull else step_with_answer s Retired)
    else misses config s n block need

abbrev pub step_of_access : Config → Fabric → ℕ → ℕ → Need → FabricStep
step_of_access config s n block need = if has_miss (node_at s n).cache.miss then step_refused s Waits else accesses config s n block need
