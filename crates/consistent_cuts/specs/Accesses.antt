-- What a retirement does to the records of each block, and what it needs of the line that serves it.
use Rattle.std.specs.Prelude.{◌≡◌, ◌≢◌, ℕ, ◌+◌, ◌<◌, ◌≤◌, Bool, true, false, length, Option, ⊤}
use Rattle.sn_base.specs.Image.{ImageData}
use Rattle.sn_base.specs.declared.block.Write.{Write}
use Rattle.rv_core.specs.declared.step.Want.{Want}
use Rattle.rv_core.specs.declared.step.Want.TheVariants.{Nothing, Load, Store, Amo, Lr, Sc, Input}
use Rattle.rv_core.specs.Core.{bare, block_of, is_running}
use Rattle.rv_core.specs.Step.{want_of}
use Rattle.sn_base.specs.declared.config.Config.{Config}
use Rattle.sn_model.specs.declared.cache.Need.{Need}
use Rattle.sn_model.specs.declared.cache.Need.TheVariants.{Read, Write as ToWrite}
use Rattle.sn_model.specs.Access.{has_miss, serves, lacks_room}
use Rattle.sn_model.specs.Caches.{block_count, is_present, is_writable_state}
use Rattle.sn_model.specs.Fabric.{Fabric, node_at, line_of_node}
use Rattle.sn_model.specs.Instructions.{found_at, next_with, record_with, taken_by}
use Rattle.sn_model.specs.Machine.{State, processor_at}
use Rattle.sn_coherence.specs.Records.{Records, loads, loads_reserved, stores, stores_conditional, unreserves}
use Rattle.fabric_bounds.specs.Events.{CanUse}
use Rattle.fabric_bounds.specs.Recorded.{at_block}
use Rattle.sn_consistency.specs.Words.{Content, write_block}
use Rattle.sn_consistency.specs.Entries.{Entry}

-- the entry that a node's next instruction makes in the sorted list
abbrev pub entry_of : ImageData → State → ℕ → Entry
entry_of image s n = record { found = bare (processor_at s n).core; did = record_with n (found_at image s n) }

-- what a node's next instruction writes
abbrev pub write_of : ImageData → State → ℕ → Option Write
write_of image s n = (next_with image (processor_at s n) (found_at image s n)).effect.write

-- what it makes of a block: what its line has, with what is written
abbrev pub content_left : ImageData → State → ℕ → ℕ → Content
content_left image s n b = write_block (write_of image s n) (line_of_node s.fabric n b).content

-- the records without node n's reservations
abbrev pub unreserved_at : (ℕ → Records) → ℕ → ℕ → Records
unreserved_at r n o = unreserves (r o) n

-- the records after node n, in interval now, did what it wants on a block that then has this content; done is whether a
-- store-conditional is
abbrev pub records_wanting : Want → Bool → (ℕ → Records) → ℕ → ℕ → (ℕ → Content) → ℕ → Records
records_wanting Nothing done r n now v = r
records_wanting (Load a) done r n now v = at_block (block_of a) (loads (r (block_of a)) n now) r
records_wanting (Store a) done r n now v = at_block (block_of a) (stores (r (block_of a)) n now (v (block_of a))) r
records_wanting (Amo a) done r n now v = at_block (block_of a) (stores (r (block_of a)) n now (v (block_of a))) r
records_wanting (Lr a) done r n now v = at_block (block_of a) (loads_reserved (r (block_of a)) n now) (unreserved_at r n)
records_wanting (Sc a) true r n now v =
    at_block (block_of a) (stores_conditional (r (block_of a)) n now (v (block_of a))) (unreserved_at r n)
records_wanting (Sc a) false r n now v = unreserved_at r n
records_wanting Input done r n now v = r

-- the records of each block after node n's next instruction retired
abbrev pub records_after : ImageData → State → (ℕ → Records) → ℕ → ℕ → Records
records_after image s r n =
    records_wanting (want_of image (processor_at s n).core) (found_at image s n).sc_done r n (node_at s.fabric n).now
    (content_left image s n)

-- a line of block b at node n that may be read: it has the newest content, and no write lies above the node's interval
pub record IsReadable (s : Fabric) (r : ℕ → Records) (n b : ℕ) : Type 0 where
  pub below : b < block_count
  pub present : is_present (line_of_node s n b).state ≡ true
  pub content : (line_of_node s n b).content ≡ (r b).value
  pub newest : (r b).last_write ≤ (node_at s n).now + 1

-- one that may be written: no access lies above the node's interval either, and no other node has the block reserved
pub record IsWritable (s : Fabric) (r : ℕ → Records) (n b : ℕ) : Type 0 where
  pub read : IsReadable s r n b
  pub writable : is_writable_state (line_of_node s n b).state ≡ true
  pub alone : (m : ℕ) → (r b).last_access m ≤ (node_at s n).now + 1
  pub unreserved : (m : ℕ) → m < length s.nodes → m ≢ n → (r b).reserved m ≡ false

-- what an instruction of node n needs to retire, by what it wants; done is whether a store-conditional is
abbrev pub IsServed : Want → Bool → State → (ℕ → Records) → ℕ → Type 0
IsServed Nothing done s r n = ⊤
IsServed (Load a) done s r n = IsReadable s.fabric r n (block_of a)
IsServed (Store a) done s r n = IsWritable s.fabric r n (block_of a)
IsServed (Amo a) done s r n = IsWritable s.fabric r n (block_of a)
IsServed (Lr a) done s r n = IsReadable s.fabric r n (block_of a)
IsServed (Sc a) true s r n = IsWritable s.fabric r n (block_of a)
IsServed (Sc a) false s r n = ⊤
IsServed Input done s r n = taken_by s n < length (processor_at s n).given

-- node n's next instruction retires: its core runs, and what it wants is served
pub record MayRetire (image : ImageData) (s : State) (r : ℕ → Records) (n : ℕ) : Type 0 where
  pub node : n < length s.fabric.nodes
  pub running : is_running (processor_at s n).core.end ≡ true
  pub served : IsServed (want_of image (processor_at s n).core) (found_at image s n).sc_done s r n

-- by the machine alone: node n can use its line of block b, that line serves what is needed of it, and the log has room for what that notes
pub record CanServe (config : Config) (s : Fabric) (n b : ℕ) (need : Need) : Type 0 where
  pub line : CanUse s n b
  pub serving : serves need (line_of_node s n b).state ≡ true
  pub room : lacks_room config (node_at s n) b need ≡ false

-- what an instruction of node n wants is served; what wants no line is, an input where a byte is left
abbrev pub CanServeWant : Want → Bool → Config → State → ℕ → Type 0
CanServeWant Nothing done config s n = ⊤
CanServeWant (Load a) done config s n = CanServe config s.fabric n (block_of a) Read
CanServeWant (Store a) done config s n = CanServe config s.fabric n (block_of a) ToWrite
CanServeWant (Amo a) done config s n = CanServe config s.fabric n (block_of a) ToWrite
CanServeWant (Lr a) done config s n = CanServe config s.fabric n (block_of a) Read
CanServeWant (Sc a) true config s n = CanServe config s.fabric n (block_of a) ToWrite
CanServeWant (Sc a) false config s n = ⊤
CanServeWant Input done config s n = taken_by s n < length (processor_at s n).given

-- where a step of node n is a retirement
pub record CanRetire (image : ImageData) (config : Config) (s : State) (n : ℕ) : Type 0 where
  pub node : n < length s.fabric.nodes
  pub running : is_running (processor_at s n).core.end ≡ true
  pub no_miss : has_miss (node_at s.fabric n).cache.miss ≡ false
  pub served : CanServeWant (want_of image (processor_at s n).core) (found_at image s n).sc_done config s n
