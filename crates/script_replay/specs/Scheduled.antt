-- Events that come one after another, as a machine has them.
use Rattle.std.specs.Prelude.{List}
use Rattle.sn_base.specs.Image.{ImageData}
use Rattle.sn_base.specs.declared.config.Config.{Config}
use Rattle.sn_base.specs.declared.event.Event.{Event}
use Rattle.sn_model.specs.Machine.{State}
use Rattle.due_events.specs.Machine.{MachineData}
use Rattle.script_replay.specs.declared.job.Showing.{Showing}
use Rattle.script_replay.specs.declared.job.Replay.{Replay}

-- those that are left on this machine
abbrev pub left_on : (ImageData → Config → State → List Event) → MachineData → List Event
left_on left m = left m.image m.config m.state

-- the replay of events on this machine, where it is at its program's start
abbrev pub replay_of : MachineData → Showing → List Event → Replay
replay_of m showing events = record { program = m.image; config = m.config; showing = showing; script = events }
