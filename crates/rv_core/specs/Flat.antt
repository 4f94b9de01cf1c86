-- The flat machine: one memory and one core per node. It has no cache, message, interval or log. A record is one
-- instruction of one core, done at once.
use Rattle.std.specs.Prelude.{◌≡◌, ℕ, zero, suc, ◌-◌, ◌*◌, ◌/◌, ◌<◌, true, if◌then◌else◌, List, [], ◌∷◌, ◌++◌, map, length, drop, get_or}
use Rattle.std.specs.Prelude.{slice_set, Option, Some, None, is_some}
use Rattle.byteorder.specs.Endian.{little_number, little_bytes}
use Rattle.sn_base.specs.Blocks.{ram_start, ram_size, bytes_of, stored_in}
use Rattle.sn_base.specs.Image.{ImageData, bytes_from}
use Rattle.sn_base.specs.declared.block.Write.{Write}
use Rattle.rv_core.specs.declared.state.CoreState.{CoreState}
use Rattle.rv_core.specs.declared.step.Want.{Want}
use Rattle.rv_core.specs.declared.step.Want.TheVariants.{Nothing, Load, Store, Amo, Lr, Sc, Input}
use Rattle.rv_core.specs.declared.step.Record.{Record}
use Rattle.rv_core.specs.Core.{start_of, bare, block_of, is_reserved, is_running, is_input, holds_reservation}
use Rattle.rv_core.specs.Step.{Next, next_of, want_of}

-- the bytes of memory from its first address on, and the cores in order of their nodes
pub record FlatState : Type 0 where
  pub memory : List ℕ
  pub cores : List CoreState

-- the bytes that a program gives memory, 0 where it gives none
unfoldable pub initial_memory : ImageData → List ℕ
initial_memory image = bytes_from ram_size image.segments ram_start

-- the cores of the first nodes, each at the entry
abbrev pub first_cores : ℕ → ℕ → List CoreState
first_cores zero entry = []
first_cores (suc n) entry = first_cores n entry ++ start_of n entry ∷ []

abbrev pub flat_start : ImageData → ℕ → FlatState
flat_start image nodes = record { memory = initial_memory image; cores = first_cores nodes image.entry }

-- the core of a node; past the last node a core that is nobody's
abbrev pub core_at : FlatState → ℕ → CoreState
core_at flat node = get_or flat.cores node (start_of 0 0)

-- the aligned word that holds an address
abbrev pub word_at : List ℕ → ℕ → ℕ
word_at memory address = little_number 4 (drop ((address - ram_start) / 4 * 4) memory)

-- the word that an instruction sees: the aligned word for a load, an atomic operation and a load-reserved, else 0
abbrev pub seen_by : Want → List ℕ → ℕ
seen_by Nothing memory = 0
seen_by (Load address) memory = word_at memory address
seen_by (Store address) memory = 0
seen_by (Amo address) memory = word_at memory address
seen_by (Lr address) memory = word_at memory address
seen_by (Sc address) memory = 0
seen_by Input memory = 0

-- whether a record is a step of the flat machine, where its core wants this
pub record HasStepWanting (flat : FlatState) (want : Want) (r : Record) : Type 0 where
  pub within : r.core < length flat.cores
  pub running : is_running (core_at flat r.core).end ≡ true
  pub seen : r.seen ≡ seen_by want flat.memory
  pub done : r.sc_done ≡ true → holds_reservation (core_at flat r.core) want ≡ true
  pub read : is_some r.read ≡ is_input want

abbrev pub HasStep : ImageData → FlatState → Record → Type 0
HasStep image flat r = HasStepWanting flat (want_of image (core_at flat r.core)) r

-- memory after a write
abbrev pub memory_after_write : List ℕ → Option Write → List ℕ
memory_after_write memory None = memory
memory_after_write memory (Some w) = stored_in memory (w.address - ram_start) (little_bytes (bytes_of w.width) w.value)

-- a core after a write of somebody else: it has no reservation on that block
abbrev pub after_write : Option Write → CoreState → CoreState
after_write None core = core
after_write (Some w) core = if is_reserved core.reservation (block_of w.address) then bare core else core

-- the flat machine after a core's step
abbrev pub flat_after : FlatState → ℕ → Next → FlatState
flat_after flat node next = record {
  memory = memory_after_write flat.memory next.effect.write;
  cores = slice_set (map (after_write next.effect.write) flat.cores) node next.core;
}

-- what a record's core does
abbrev pub next_by : ImageData → FlatState → Record → Next
next_by image flat r = next_of image (core_at flat r.core) r.seen r.sc_done r.read

abbrev pub flat_step : ImageData → FlatState → Record → FlatState
flat_step image flat r = flat_after flat r.core (next_by image flat r)
