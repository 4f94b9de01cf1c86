-- What the machine's lists of pending, committed, held and released are, by the retirements along the run.
use Rattle.std.specs.Prelude.{◌≡◌, ℕ, nat_le, List, map, filter, filter_map, flat_map}
use Rattle.sn_base.specs.Image.{ImageData}
use Rattle.sn_model.specs.Machine.{State, Retirement, HeldByte}
use Rattle.sn_model.specs.Instructions.{held_in}
use Rattle.sn_model.specs.Trace.{TraceEntry, of_interval, committed_trace, committed_output}
use Rattle.sn_consistency.specs.Entries.{Entry}
use Rattle.sn_consistency.specs.Shows.{records, outs}

-- the retirements of intervals that aren't validated
abbrev pub not_validated : ℕ → List TraceEntry → List TraceEntry
not_validated point trace = filter (λ e. nat_le point e.interval) trace

abbrev pub retirement_of : TraceEntry → Retirement
retirement_of e = record { interval = e.interval; did = e.did }

-- the byte that an instruction put out, held for its interval
abbrev pub held_of : TraceEntry → List HeldByte
held_of e = held_in e.interval e.out

-- the machine's four lists are those of the retirements along its run
pub record IsTraced (s : State) (trace : List TraceEntry) : Type 0 where
  pub pending : s.pending ≡ map retirement_of (not_validated s.fabric.point trace)
  pub committed : s.committed ≡ committed_trace trace s.fabric.point
  pub held : s.held ≡ flat_map held_of (not_validated s.fabric.point trace)
  pub released : s.released ≡ committed_output trace s.fabric.point

-- the sorted list is that of the retirements: each interval has their records, and puts out their bytes
pub record IsSortedFrom (image : ImageData) (list : ℕ → List Entry) (trace : List TraceEntry) : Type 0 where
  pub did : (x : ℕ) → records (list x) ≡ map (λ e. e.did) (of_interval trace x)
  pub out : (x : ℕ) → outs image (list x) ≡ filter_map (λ e. e.out) (of_interval trace x)
