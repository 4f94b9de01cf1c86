-- A machine as a value, what an event makes of it, and what is promised of it at every moment.
use Rattle.std.specs.Prelude.{◌≡◌, ℕ, ◌+◌, ◌-◌, List, [], length}
use Rattle.sn_base.specs.Image.{ImageData}
use Rattle.sn_base.specs.declared.config.Config.{Config}
use Rattle.sn_base.specs.declared.event.Event.{Event}
use Rattle.sn_base.specs.declared.event.Answer.{Answer}
use Rattle.rv_core.specs.Flat.{FlatState}
use Rattle.rv_core.specs.Execution.{end_of}
use Rattle.sn_model.specs.declared.net.Sent.{Sent}
use Rattle.sn_model.specs.Instructions.{MachineStep}
use Rattle.sn_model.specs.Machine.{State, start_of}
use Rattle.sn_model.specs.Step.{step_of}
use Rattle.consistent_cuts.specs.Headline.{IsRun, IsConsistent}
use Rattle.consistent_cuts.specs.Origins.{Origin, Start, MayBegin, applied_at, reached_from, retirements_from}

-- a machine and the life that it has: its program and sizes, its state, what the last event sent, how many events were
-- applied, and for how many more there is room
pub record MachineData : Type 0 where
  pub image : ImageData
  pub config : Config
  pub state : State
  pub sent : List Sent
  pub applied : ℕ
  pub spare : ℕ

-- a machine of these sizes at the start of a program, with room for so many events
abbrev pub machine_with_room : ImageData → Config → ℕ → MachineData
machine_with_room image config events = record {
  image = image;
  config = config;
  state = start_of image config.nodes;
  sent = [];
  applied = 0;
  spare = events;
}

-- what an event comes to
abbrev pub next_of : MachineData → Event → MachineStep
next_of m event = step_of m.image m.config m.state event

-- an event was applied: its answer, its state and what it sent are the definitions', and one room less is left
pub record IsApplied (before after : MachineData) (event : Event) (said : Answer) : Type 0 where
  pub answer : said ≡ (next_of before event).answer
  pub left : after ≡ record before {
    state = (next_of before event).state;
    sent = (next_of before event).sent;
    applied = before.applied + 1;
    spare = before.spare - 1;
  }

-- the flat machine after the committed trace
abbrev pub flat_of : MachineData → FlatState
flat_of m = end_of m.image m.config.nodes m.state.committed

-- these events, from where a run may begin, led to the machine: they are a run, it reached this state, and they are all that
-- were applied since
pub record HasRunFrom (m : MachineData) (origin : Origin) (events : List Event) : Type 0 where
  pub may : MayBegin m.image m.config origin
  pub run : IsRun m.config events
  pub state : m.state ≡ reached_from m.image m.config origin events
  pub count : applied_at origin + length events ≡ m.applied

-- from the program's start
abbrev pub HasRun : MachineData → List Event → Type 0
HasRun m events = HasRunFrom m Start events

-- the recovery point is a consistent cut, for what retired before and along these events and was not taken back
abbrev pub IsConsistentAfter : MachineData → Origin → List Event → Type 0
IsConsistentAfter m origin events = IsConsistent m.image m.config.nodes m.state (retirements_from m.image m.config origin events)

-- some events led to the machine; and whichever events did, the recovery point is a consistent cut for what retired along them
pub record IsConsistentWithItsRun (m : MachineData) : Type 0 where
  pub origin : Origin
  pub events : List Event
  pub led : HasRunFrom m origin events
  pub consistent : (another : Origin) (others : List Event) → HasRunFrom m another others → IsConsistentAfter m another others
