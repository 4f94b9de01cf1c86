-- What a machine is made of, and the state that it stands for.
use Rattle.std.specs.Prelude.{◌≡◌, ℕ, ◌+◌, ◌<◌, ◌≤◌, if◌then◌else◌, List, [], length, map, slice_index_or}
use Rattle.sn_base.specs.declared.event.Answer.{Answer}
use Rattle.rv_core.specs.Core.{start_of as start_core}
use Rattle.rv_core.specs.declared.step.Record.{Record}
use Rattle.interval_list.specs.declared.Waiting.{Waiting}
use Rattle.sn_model.specs.declared.net.Sent.{Sent}
use Rattle.sn_model.specs.Fabric.{node_at}
use Rattle.sn_model.specs.Machine.{State, Processor, Retirement, HeldByte}
use Rattle.sn_model.specs.Instructions.{MachineStep}
use Rattle.sn_machine.specs.declared.processor.Processor.{Processor as ProcessorUnit}
use Rattle.sn_machine.specs.declared.hardware.Hardware.{Hardware}

-- a processor: its core, its register checkpoints and the bytes that it was given
abbrev pub processor_as : ProcessorUnit → Processor
processor_as x = record { core = x.core; checkpoints = x.checkpoints.cores; given = x.input.given }

abbrev pub retirement_as : Waiting Record → Retirement
retirement_as p = record { interval = p.interval; did = p.entry }

abbrev pub held_as : Waiting ℕ → HeldByte
held_as h = record { interval = h.interval; byte = h.entry }

-- the state that the parts stand for
abbrev pub state_of : Hardware → State
state_of h = record {
  fabric = h.fabric.fabric;
  processors = map processor_as h.processors.items;
  reported = h.controller.reported;
  pending = map retirement_as h.history.pending;
  committed = h.history.committed;
  held = map held_as h.output.held;
  released = h.output.released;
}

-- what the last event sent: nothing, where it wasn't one of the fabric
abbrev pub sent_of : Hardware → List Sent
sent_of h = if h.is_carried then h.fabric.sent else []

-- a processor by its number; past the end one that is nobody's
abbrev pub no_unit : ProcessorUnit
no_unit = record {
  core = start_core 0 0;
  checkpoints = record { first = 0; cores = [] };
  input = record { given = []; room = 0 };
}

abbrev pub unit_at : List ProcessorUnit → ℕ → ProcessorUnit
unit_at units n = slice_index_or units n no_unit

-- parts that belong together: a processor for each node, whose checkpoints begin at the recovery point that its node knows;
-- and the controller stands at the fabric's recovery point
pub record IsWhole (h : Hardware) : Type 0 where
  pub count : length h.processors.items ≡ length h.fabric.fabric.nodes
  pub known : (n : ℕ) → n < length h.processors.items → (unit_at h.processors.items n).checkpoints.first ≡ (node_at h.fabric.fabric n).known
  pub point : h.controller.point ≡ h.fabric.fabric.point

-- room for so many events: each adds at most one record, one byte put out, and one byte given
pub record HasRoom (events : ℕ) (h : Hardware) : Type 0 where
  pub records : events ≤ h.history.room
  pub bytes : events ≤ h.output.room
  pub given : (n : ℕ) → n < length h.processors.items → events ≤ (unit_at h.processors.items n).input.room

-- the parts went through this step, and it took the room of one event at most
pub record Does (old new : Hardware) (answer : Answer) (step : MachineStep) : Type 0 where
  pub state : state_of new ≡ step.state
  pub says : answer ≡ step.answer
  pub sent : sent_of new ≡ step.sent
  pub sizes : new.fabric.config ≡ old.fabric.config
  pub whole : IsWhole new
  pub room : (events : ℕ) → HasRoom (events + 1) old → HasRoom events new
