-- Where a run begins: at a program's start, or where a machine goes on from a saved recovery point.
use Rattle.std.specs.Prelude.{◌≡◌, ℕ, List, [], ⊤}
use Rattle.sn_base.specs.Image.{ImageData}
use Rattle.sn_base.specs.declared.config.Config.{Config}
use Rattle.sn_base.specs.declared.event.Event.{Event}
use Rattle.sn_model.specs.Machine.{State, start_of}
use Rattle.fabric_bounds.specs.Resumed.{resumed, saved_entries}
use Rattle.fabric_bounds.specs.Saved.{Saved, IsAccepted}
use Rattle.sn_model.specs.Step.{state_after}
use Rattle.sn_model.specs.Trace.{TraceEntry, trace_after}
use Rattle.sn_consistency.specs.Committed.{Begins}

pub data Origin : Type 0 where
  Start : Origin
  Resumed : (saved : Saved) → Origin

-- the machine there, the instructions that have retired before, and how many events were applied
abbrev pub state_at : ImageData → Config → Origin → State
state_at image config Start = start_of image config.nodes
state_at image config (Resumed saved) = resumed image saved

abbrev pub entries_at : ImageData → Origin → List TraceEntry
entries_at image Start = []
entries_at image (Resumed saved) = saved_entries image saved

abbrev pub applied_at : Origin → ℕ
applied_at Start = 0
applied_at (Resumed saved) = saved.marks.applied

-- a run may begin there: at each start, and at each saved point from which a machine of these sizes may go on
abbrev pub MayBegin : ImageData → Config → Origin → Type 0
MayBegin image config Start = ⊤
MayBegin image config (Resumed saved) = (saved.config ≡ config) × IsAccepted image saved

-- the machine after events from there, and the instructions that have retired and were not taken back
abbrev pub reached_from : ImageData → Config → Origin → List Event → State
reached_from image config origin events = state_after image config (state_at image config origin) events

abbrev pub retirements_from : ImageData → Config → Origin → List Event → List TraceEntry
retirements_from image config origin events = trace_after image config (state_at image config origin) events (entries_at image origin)

-- what was committed and released in one state comes first in another
pub record AddsTo (s t : State) : Type 0 where
  pub committed : Begins s.committed t.committed
  pub released : Begins s.released t.released
