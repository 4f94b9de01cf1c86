-- The machine as a value: the fabric, and the rest, which is what the cores do and what becomes of it.
use Rattle.std.specs.Prelude.{ℕ, zero, suc, List, [], ◌∷◌, ◌++◌, slice_index_or, slice_set, replicate}
use Rattle.sn_base.specs.Image.{ImageData}
use Rattle.rv_core.specs.declared.state.CoreState.{CoreState}
use Rattle.rv_core.specs.declared.step.Record.{Record}
use Rattle.rv_core.specs.Core.{start_of as start_core}
use Rattle.sn_model.specs.Fabric.{Fabric, first_fabric}

-- a node's processor: its core, its register checkpoints from the recovery point that the node knows up to its interval,
-- and the bytes of input that it was given
pub record Processor : Type 0 where
  pub core : CoreState
  pub checkpoints : List CoreState
  pub given : List ℕ

-- an instruction that retired, with the interval in which it did; a byte that it put out
pub record Retirement : Type 0 where
  pub interval : ℕ
  pub did : Record

pub record HeldByte : Type 0 where
  pub interval : ℕ
  pub byte : ℕ

-- the machine: its fabric; the processor of each node; the checkpoint that each node reported; the records and bytes of
-- intervals that aren't validated, in order of retirement; and those that are, in order of interval
pub record State : Type 0 where
  pub fabric : Fabric
  pub processors : List Processor
  pub reported : List ℕ
  pub pending : List Retirement
  pub committed : List Record
  pub held : List HeldByte
  pub released : List ℕ

-- the start: each core at the program's entry

abbrev pub first_processor : ℕ → ℕ → Processor
first_processor number entry = record { core = start_core number entry; checkpoints = start_core number entry ∷ []; given = [] }

abbrev pub first_processors : ℕ → ℕ → List Processor
first_processors zero entry = []
first_processors (suc n) entry = first_processors n entry ++ first_processor n entry ∷ []

abbrev pub start_of : ImageData → ℕ → State
start_of image nodes = record {
  fabric = first_fabric image nodes;
  processors = first_processors nodes image.entry;
  reported = replicate nodes 0;
  pending = [];
  committed = [];
  held = [];
  released = [];
}

-- look-ups

abbrev pub processor_at : State → ℕ → Processor
processor_at s n = slice_index_or s.processors n (first_processor 0 0)

abbrev pub with_processor : State → ℕ → Processor → State
with_processor s n processor = record s { processors = slice_set s.processors n processor }
