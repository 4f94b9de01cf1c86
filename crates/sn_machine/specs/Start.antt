-- The parts at a program's start.
use Rattle.std.specs.Prelude.{◌≡◌, ℕ, zero, suc, ◌<◌, ◌≤◌, List, [], ◌∷◌, ◌++◌, length, map}
use Rattle.sn_base.specs.Image.{ImageData}
use Rattle.sn_base.specs.declared.config.Config.{Config}
use Rattle.rv_core.specs.Core.{start_of as start_core}
use Rattle.sn_model.specs.Machine.{start_of}
use Rattle.sn_machine.specs.declared.processor.Processor.{Processor as ProcessorUnit}
use Rattle.sn_machine.specs.declared.hardware.Hardware.{Hardware}
use Rattle.sn_machine.specs.Parts.{processor_as, state_of, sent_of, unit_at, IsWhole, HasRoom}

-- a processor at the program's entry, with its start as checkpoint 0
abbrev pub first_unit : ℕ → ℕ → ProcessorUnit
first_unit entry n = record {
  core = start_core n entry;
  checkpoints = record { first = 0; cores = start_core n entry ∷ [] };
  input = record { given = []; room = 0 };
}

-- the first so many
abbrev pub units_below : ℕ → ℕ → List ProcessorUnit
units_below zero entry = []
units_below (suc n) entry = units_below n entry ++ first_unit entry n ∷ []

pub record IsFirst (h : Hardware) (image : ImageData) (config : Config) : Type 0 where
  pub state : state_of h ≡ start_of image config.nodes
  pub sent : sent_of h ≡ []
  pub sizes : h.fabric.config ≡ config
  pub whole : IsWhole h

-- processors that are the same but for the room for more input
pub record AreRoomier (old new : List ProcessorUnit) : Type 0 where
  pub shown : map processor_as new ≡ map processor_as old
  pub count : length new ≡ length old
  pub firsts : (n : ℕ) → n < length old → (unit_at new n).checkpoints.first ≡ (unit_at old n).checkpoints.first
  pub rooms : (n : ℕ) → n < length old → (unit_at old n).input.room ≤ (unit_at new n).input.room

-- the same parts, with as much room or more
pub record IsRoomier (old new : Hardware) : Type 0 where
  pub state : state_of new ≡ state_of old
  pub sent : sent_of new ≡ sent_of old
  pub sizes : new.fabric.config ≡ old.fabric.config
  pub whole : IsWhole old → IsWhole new
  pub room : (events : ℕ) → HasRoom events old → HasRoom events new
