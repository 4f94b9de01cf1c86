-- What the flat machine has at the place of a record that is no step.
use Rattle.std.specs.Prelude.{◌≡◌, ◌≢◌, ℕ, ◌-◌, ◌<◌, true, nat_lt, if◌then◌else◌, List, take, slice_get, Option, Some, None, IfSome, Ok}
use Rattle.sn_base.specs.Image.{ImageData}
use Rattle.rv_core.specs.declared.step.Record.{Record}
use Rattle.rv_core.specs.declared.step.Want.{Want}
use Rattle.rv_core.specs.declared.step.Want.TheVariants.{Nothing, Load, Store, Amo, Lr, Sc, Input}
use Rattle.rv_core.specs.Step.{want_of}
use Rattle.rv_core.specs.Core.{is_running}
use Rattle.rv_core.specs.Flat.{FlatState, core_at, word_at}
use Rattle.rv_core.specs.Execution.{IsExecution, end_of}
use Rattle.elf_load.specs.Loading.{image_of}

-- the record at a place, counted from 1
abbrev pub record_at : List Record → ℕ → Option Record
record_at records place = if nat_lt 0 place then slice_get records (place - 1) else None

-- the word that memory has where an instruction reads it
abbrev pub word_for : Want → List ℕ → Option ℕ
word_for Nothing memory = None
word_for (Load address) memory = Some (word_at memory address)
word_for (Store address) memory = None
word_for (Amo address) memory = Some (word_at memory address)
word_for (Lr address) memory = Some (word_at memory address)
word_for (Sc address) memory = None
word_for Input memory = None

-- what the core of a record reads in memory, where it runs
abbrev pub word_read : ImageData → FlatState → Record → Option ℕ
word_read image flat r =
    if is_running (core_at flat r.core).end then word_for (want_of image (core_at flat r.core)) flat.memory else None

-- a program's file and the records of a trace on so many nodes: the records before this place are an execution, the core of the record there is
-- one of the nodes' and reads this word in memory, and its record has another
pub record IsMissed (program : List ℕ) (nodes : ℕ) (records : List Record) (place : ℕ) (word : ℕ) : Type 0 where
  pub image : ImageData
  pub loaded : image_of program ≡ Ok image
  pub taken : Record
  pub there : record_at records place ≡ Some taken
  pub before : IsExecution image nodes (take (place - 1) records)
  pub within : taken.core < nodes
  pub read : word_read image (end_of image nodes (take (place - 1) records)) taken ≡ Some word
  pub other : taken.seen ≢ word

-- such a word, and none only where there is none
pub record IsFound (program : List ℕ) (nodes : ℕ) (records : List Record) (place : ℕ) (found : Option ℕ) : Type 0 where
  pub some : IfSome found (IsMissed program nodes records place)
  pub each : (word : ℕ) → IsMissed program nodes records place word → found ≡ Some word
