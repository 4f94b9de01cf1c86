-- The parts of a machine that goes on from a recovery point.
use Rattle.std.specs.Prelude.{◌≡◌, ℕ, zero, suc, ◌<◌, List, [], ◌∷◌, ◌++◌, map, length, slice_index_or}
use Rattle.sn_base.specs.Image.{ImageData}
use Rattle.sn_base.specs.declared.config.Config.{Config}
use Rattle.rv_core.specs.declared.step.Record.{Record}
use Rattle.rv_core.specs.Core.{bare}
use Rattle.rv_core.specs.Flat.{FlatState, core_at}
use Rattle.interval_list.specs.declared.Waiting.{Waiting}
use Rattle.sn_model.specs.Caches.{block_count}
use Rattle.sn_model.specs.RecoveryPoint.{block_in}
use Rattle.sn_saved.specs.declared.marks.Marks.{Marks}
use Rattle.sn_saved.specs.Saved.{Saved, given_to}
use Rattle.sn_saved.specs.Resumed.{resumed}
use Rattle.sn_machine.specs.declared.processor.Processor.{Processor as ProcessorUnit}
use Rattle.sn_machine.specs.declared.hardware.Hardware.{Hardware}
use Rattle.sn_machine.specs.Parts.{state_of, sent_of, IsWhole}

-- what is said by the arguments of `at_cut`
abbrev pub saved_by : Config → Marks → List (ℕ × ℕ) → List (ℕ × ℕ) → List Record → Saved
saved_by config marks owners given records =
    record { config = config; marks = marks; owners = owners; given = given; committed = records }

-- the content of each block of memory, in order of their numbers
pub record HasContents (memory : List ℕ) (contents : List (List ℕ)) : Type 0 where
  pub count : length contents ≡ block_count
  pub blocks : (block : ℕ) → block < block_count → slice_index_or contents block [] ≡ block_in memory block

-- entries that wait, all of interval 0
abbrev pub of_interval_0 : {T : Type 0} → List T → List (Waiting T)
of_interval_0 entries = map (λ entry. record { interval = 0; entry = entry }) entries

-- a processor that has its checkpoint as its core, and the bytes given
abbrev pub unit_resumed : FlatState → List (ℕ × ℕ) → ℕ → ℕ → ProcessorUnit
unit_resumed flat given point n = record {
  core = bare (core_at flat n);
  checkpoints = record { first = point; cores = bare (core_at flat n) ∷ [] };
  input = record { given = given_to given n; room = 0 };
}

-- the first so many
abbrev pub units_resumed : ℕ → FlatState → List (ℕ × ℕ) → ℕ → List ProcessorUnit
units_resumed zero flat given point = []
units_resumed (suc n) flat given point = units_resumed n flat given point ++ unit_resumed flat given point n ∷ []

pub record IsResumed (h : Hardware) (image : ImageData) (saved : Saved) : Type 0 where
  pub state : state_of h ≡ resumed image saved
  pub sent : sent_of h ≡ []
  pub sizes : h.fabric.config ≡ saved.config
  pub whole : IsWhole h
