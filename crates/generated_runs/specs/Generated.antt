-- The events of a generated run.
use Rattle.std.specs.Prelude.{◌≡◌, ℕ, zero, suc, ◌+◌, ◌%◌, List, [], ◌∷◌, None}
use Rattle.sn_base.specs.Image.{ImageData}
use Rattle.sn_base.specs.declared.config.Config.{Config}
use Rattle.sn_base.specs.declared.event.Event.{Event}
use Rattle.sn_base.specs.declared.rules.Rules.{Rules}
use Rattle.rand_core.specs.Pcg32Seed.{pcg32_seed}
use Rattle.rand_pcg.specs.Lcg.{Lcg}
use Rattle.rand_pcg.specs.Pcg.{pcg32, pcg32_of_seed}
use Rattle.sn_model.specs.Machine.{State, start_of}
use Rattle.sn_machine.specs.Machine.{MachineData}
use Rattle.due_events.specs.Numbers.{Numbers, first_numbers}
use Rattle.due_events.specs.Runs.{Draw, events_due}
use Rattle.script_replay.specs.declared.job.Showing.{Showing}
use Rattle.script_replay.specs.declared.job.Replay.{Replay}
use Rattle.counting_program.specs.Program.{counting_image}

abbrev pub generated_config : Config
generated_config = record { nodes = 4; sets = 16; ways = 4; log = 256 }

abbrev pub generated_rules : Rules
generated_rules = record { interval = 20; wait = 2000; lose_every = 97; kill = None }

-- so many turns from one of this number on, of workers 0 to 3 and again from 0, each with the generator's next word
abbrev pub draws : ℕ → ℕ → Lcg → List Draw
draws zero number generator = []
draws (suc left) number generator = record { worker = number % 4; pick = (pcg32 generator).0 } ∷ draws left (number + 1) (pcg32 generator).1

-- the generator that the size seeds
abbrev pub generator_of : ℕ → Lcg
generator_of size = pcg32_of_seed (pcg32_seed 16 size)

-- the events that are due in so many turns from one of this number on, on a machine in this state
abbrev pub still_due : ImageData → Config → State → Numbers → ℕ → ℕ → Lcg → List Event
still_due image config s x left number generator = events_due generated_rules image config s x (draws left number generator)

-- the events of so many turns from the program's start
abbrev pub generated_events : ℕ → List Event
generated_events size =
    events_due generated_rules counting_image generated_config (start_of counting_image 4) first_numbers (draws size 0 (generator_of size))

-- a replay of them
abbrev pub generated_replay : ℕ → Showing → Replay
generated_replay size showing =
    record { program = counting_image; config = generated_config; showing = showing; script = generated_events size }

-- what is left of a generated run: what the driver has counted, the number of the next turn, and how many are left
pub record GeneratedData : Type 0 where
  pub numbers : Numbers
  pub turn : ℕ
  pub left : ℕ
  pub generator : Lcg

-- a machine at the program's start
pub record IsFresh (m : MachineData) : Type 0 where
  pub image : m.image ≡ counting_image
  pub config : m.config ≡ generated_config
  pub state : m.state ≡ start_of counting_image 4
  pub new : m.applied ≡ 0
