-- The machine as the sorted list sees it, with what the coherence theorem's records say of each block.
use Rattle.std.specs.Prelude.{◌≡◌, ℕ, ◌+◌, ◌<◌, ◌≤◌, nat_lt, if◌then◌else◌, List, drop, length, slice_index}
use Rattle.sn_base.specs.Image.{ImageData}
use Rattle.rv_core.specs.Core.{bare, is_reserved}
use Rattle.rv_core.specs.Flat.{flat_start}
use Rattle.sn_model.specs.Caches.{block_count}
use Rattle.sn_model.specs.Fabric.{Fabric, node_at}
use Rattle.sn_model.specs.Machine.{State, processor_at}
use Rattle.sn_model.specs.Instructions.{taken_by}
use Rattle.sn_model.specs.MachineEvents.{checkpoint_of}
use Rattle.sn_coherence.specs.Records.{Records}
use Rattle.sn_consistency.specs.Entries.{Entry, Places}
use Rattle.sn_consistency.specs.Shows.{places_of}
use Rattle.sn_consistency.specs.Outline.{Outline}

-- a node's interval; a number that is no node's is always at the recovery point
abbrev pub interval_of : Fabric → ℕ → ℕ
interval_of s n = if nat_lt n (length s.nodes) then (node_at s n).now else s.point

abbrev pub outline_of : State → (ℕ → Records) → (ℕ → List Entry) → Outline
outline_of s r list = record {
  point = s.fabric.point;
  interval = interval_of s.fabric;
  known = λ n. (node_at s.fabric n).known;
  core = λ n. bare (processor_at s n).core;
  reserved = λ n b. is_reserved (processor_at s n).core.reservation b;
  checkpoint = λ n k. checkpoint_of (processor_at s n) (node_at s.fabric n).known k;
  given = λ n. (processor_at s n).given;
  waiting = λ n. drop (taken_by s n) (processor_at s n).given;
  list = list;
  content = λ b k. (r b).below k;
  value = λ b. (r b).value;
  last_write = λ b. (r b).last_write;
  last_access = λ b n. (r b).last_access n;
}

-- the flat machine at a program's start
abbrev pub start_places : ImageData → ℕ → Places
start_places image nodes = places_of (flat_start image nodes)

-- the rest of the machine has a processor and a reported number for each node, each processor a register checkpoint for
-- each interval from the point that its node knows on, and no node has taken more than it was given
pub record IsRestShaped (s : State) : Type 0 where
  pub processors : length s.processors ≡ length s.fabric.nodes
  pub reported : length s.reported ≡ length s.fabric.nodes
  pub checkpoints : (n : ℕ) → n < length s.fabric.nodes →
      (node_at s.fabric n).known + length (processor_at s n).checkpoints ≡ (node_at s.fabric n).now + 1
  pub taken : (n : ℕ) → n < length s.fabric.nodes → taken_by s n ≤ length (processor_at s n).given

-- the records of each block say of the rest what it has: each core's reservation, and each node's reported number
pub record Agrees (s : State) (r : ℕ → Records) : Type 0 where
  pub reserved : (b n : ℕ) → b < block_count → n < length s.fabric.nodes →
      (r b).reserved n ≡ is_reserved (processor_at s n).core.reservation b
  pub reported : (b n : ℕ) → b < block_count → n < length s.fabric.nodes → (r b).reported n ≡ slice_index s.reported n
