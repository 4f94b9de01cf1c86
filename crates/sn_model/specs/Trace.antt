-- The committed trace of a run, made from the retirements along it.
use Rattle.std.specs.Prelude.{ℕ, zero, suc, nat_lt, nat_eq, List, [], ◌∷◌, ◌++◌, map, filter, filter_map, Option}
use Rattle.sn_base.specs.Image.{ImageData}
use Rattle.sn_base.specs.declared.config.Config.{Config}
use Rattle.sn_base.specs.declared.event.Event.{Event}
use Rattle.sn_base.specs.declared.event.Event.TheVariants.{Step}
use Rattle.sn_base.specs.declared.event.Answer.{Answer}
use Rattle.sn_base.specs.declared.event.Answer.TheVariants.{Retired, Recovered}
use Rattle.rv_core.specs.declared.step.Record.{Record}
use Rattle.sn_model.specs.Fabric.{node_at}
use Rattle.sn_model.specs.Machine.{State, processor_at}
use Rattle.sn_model.specs.Instructions.{found_at, next_with, record_with}
use Rattle.sn_model.specs.Step.{step_of}

-- an instruction that retired: its interval, its record, and the byte that it put out
pub record TraceEntry : Type 0 where
  pub interval : ℕ
  pub did : Record
  pub out : Option ℕ

-- the next instruction of a node, as it retires: with what it finds, in the node's interval
abbrev pub entry_at : ImageData → State → ℕ → TraceEntry
entry_at image s n = record {
  interval = (node_at s.fabric n).now;
  did = record_with n (found_at image s n);
  out = (next_with image (processor_at s n) (found_at image s n)).effect.out;
}

-- the retirements, with that of this event
abbrev pub with_event : ImageData → State → Event → List TraceEntry → List TraceEntry
with_event image s (Step n) trace = trace ++ entry_at image s n ∷ []
with_event image s _ trace = trace

-- an instruction that retired is added; a recovery takes those from its checkpoint on away; nothing else changes the list
abbrev pub trace_after_event : ImageData → State → Event → Answer → List TraceEntry → List TraceEntry
trace_after_event image s event Retired trace = with_event image s event trace
trace_after_event image s event (Recovered undo) trace = filter (λ e. nat_lt e.interval undo.to) trace
trace_after_event image s event _ trace = trace

-- the retirements along the events, from this list on
abbrev pub trace_after : ImageData → Config → State → List Event → List TraceEntry → List TraceEntry
trace_after image config s [] trace = trace
trace_after image config s (event ∷ events) trace =
    trace_after image config (step_of image config s event).state events (trace_after_event image s event (step_of image config s event).answer trace)

-- those of an interval, in order of retirement
abbrev pub of_interval : List TraceEntry → ℕ → List TraceEntry
of_interval trace k = filter (λ e. nat_eq e.interval k) trace

-- those of interval 0, then of interval 1, and so on below an interval
abbrev pub below : List TraceEntry → ℕ → List TraceEntry
below trace zero = []
below trace (suc k) = below trace k ++ of_interval trace k

-- the committed trace at a recovery point, and the bytes that it puts out
abbrev pub committed_trace : List TraceEntry → ℕ → List Record
committed_trace trace point = map (λ e. e.did) (below trace point)

abbrev pub committed_output : List TraceEntry → ℕ → List ℕ
committed_output trace point = filter_map (λ e. e.out) (below trace point)
