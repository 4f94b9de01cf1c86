-- What is promised of every run: of each moment, and of each event. A run is a list of events that fit a fitting
-- configuration, from a program's start or from a saved recovery point, in any order, with losses, dead switches and recoveries anywhere.
use Rattle.std.specs.Prelude.{◌≡◌, ◌≢◌, ◌⊎◌, ℕ, ◌+◌, ◌<◌, true, false, nat_eq, List, [], ◌∷◌, ◌++◌, length, filter, Some}
use Rattle.sn_base.specs.Config.{config_fits}
use Rattle.sn_base.specs.Image.{ImageData}
use Rattle.sn_base.specs.declared.config.Config.{Config}
use Rattle.sn_base.specs.declared.event.Event.{Event}
use Rattle.sn_base.specs.declared.event.Event.TheVariants.{Step, Evict, Edge, Deliver, Recover}
use Rattle.sn_base.specs.declared.event.Answer.TheVariants.{Retired, Validated, Recovered}
use Rattle.sn_base.specs.declared.event.Undo.{Undo}
use Rattle.rv_core.specs.declared.step.Want.TheVariants.{Lr, Sc}
use Rattle.rv_core.specs.Core.{block_of, is_reserved}
use Rattle.rv_core.specs.Execution.{IsExecution, end_of, in_of, out_of}
use Rattle.rv_core.specs.Step.{want_of}
use Rattle.sn_model.specs.declared.net.News.TheVariants.{LostCopy}
use Rattle.sn_model.specs.Caches.{block_count, line_of, is_present}
use Rattle.sn_model.specs.Fabric.{node_at}
use Rattle.sn_model.specs.NodeEvents.{step_of_eviction}
use Rattle.sn_model.specs.NetEvents.{step_of_delivery}
use Rattle.sn_model.specs.Machine.{State, processor_at}
use Rattle.sn_model.specs.Instructions.{MachineStep, records_of}
use Rattle.sn_model.specs.MachineEvents.{bytes_of}
use Rattle.sn_model.specs.RecoveryPoint.{IsCut, IsRestored}
use Rattle.sn_model.specs.Trace.{TraceEntry, entry_at, committed_trace}
use Rattle.sn_consistency.specs.Committed.{Begins}
use Rattle.fabric_bounds.specs.Coherent.{NothingUnfinished}
use Rattle.consistent_cuts.specs.Lists.{retirement_of}
use Rattle.consistent_cuts.specs.Origins.{Start, reached_from, retirements_from}
use Rattle.consistent_cuts.specs.Runs.{AllFit}

-- the premises: 1 to 16 nodes, 1 to 256 sets, 1 to 16 ways, a log of 4 to 4,096 entries; and events whose nodes, switches and
-- blocks are there
pub record IsRun (config : Config) (events : List Event) : Type 0 where
  pub fits : config_fits config ≡ true
  pub events_fit : AllFit config.nodes events

-- the machine after the events from a program's start, and the instructions that have retired and were not taken back
abbrev pub state_of_run : ImageData → Config → List Event → State
state_of_run image config events = reached_from image config Start events

abbrev pub retirements : ImageData → Config → List Event → List TraceEntry
retirements image config events = retirements_from image config Start events

-- what holds at each moment
pub record IsConsistent (image : ImageData) (nodes : ℕ) (s : State) (trace : List TraceEntry) : Type 0 where
  -- the machine has its nodes
  pub count : length s.fabric.nodes ≡ nodes
  -- the committed trace is an execution without faults, and the one that the retirements make, interval by interval
  pub execution : IsExecution image nodes s.committed
  pub made : s.committed ≡ committed_trace trace s.fabric.point
  -- the recovery point is a cut: the last state of that execution, with the cores' registers there and one owner a block
  pub cut : IsCut s s.fabric.point (end_of image nodes s.committed)
  -- released bytes are its output, and what a node's records read are the first of the bytes given to it
  pub output : s.released ≡ out_of image nodes s.committed
  pub input : (n : ℕ) → n < nodes → Begins (in_of n s.committed) (processor_at s n).given
  -- nothing that was begun before the recovery point is unfinished
  pub finished : NothingUnfinished s.fabric s.fabric.point
  -- a core's reservation is on a block of which its cache has a copy
  pub reserved : (n block : ℕ) → n < nodes → block < block_count → is_reserved (processor_at s n).core.reservation block ≡ true →
      is_present (line_of (node_at s.fabric n).cache block).state ≡ true

-- the records and bytes of the interval that a validation leaves behind, in order of retirement
abbrev pub LeavesBehind : State → State → Type 0
LeavesBehind s t =
    (t.committed ≡ s.committed ++ records_of (filter (λ r. nat_eq r.interval s.fabric.point) s.pending))
    × (t.released ≡ s.released ++ bytes_of (filter (λ b. nat_eq b.interval s.fabric.point) s.held))

-- what is committed, released, given and dead stays, and the recovery point
pub record IsUntouched (s t : State) : Type 0 where
  pub point : t.fabric.point ≡ s.fabric.point
  pub committed : t.committed ≡ s.committed
  pub released : t.released ≡ s.released
  pub given : (n : ℕ) → (processor_at t n).given ≡ (processor_at s n).given
  pub dead : t.fabric.net.dead ≡ s.fabric.net.dead

-- why a core may have lost its reservation: a clock edge of its node, a recovery, loss of the copy, or a load-reserved or
-- store-conditional of its own
abbrev pub Reserving : ImageData → State → ℕ → Type 0
Reserving image s n =
    (address : ℕ) × ((want_of image (processor_at s n).core ≡ Lr address) ⊎ (want_of image (processor_at s n).core ≡ Sc address))

abbrev pub MayUnreserve : ImageData → Config → State → ℕ → ℕ → Event → Type 0
MayUnreserve image config s n block (Step m) = (m ≡ n) × Reserving image s n
MayUnreserve image config s n block (Edge m) = m ≡ n
MayUnreserve image config s n block (Evict m b) = (step_of_eviction s.fabric m b).told ≡ Some (LostCopy n block)
MayUnreserve image config s n block (Deliver id) = (step_of_delivery config s.fabric id).told ≡ Some (LostCopy n block)
MayUnreserve image config s n block Recover = Unit {0}
MayUnreserve image config s n block _ = ⊥

-- what each event does to a machine after a run
pub record IsStepOfRun (image : ImageData) (config : Config) (s : State) (event : Event) (next : MachineStep) : Type 0 where
  -- a validation comes only where nothing before its checkpoint is unfinished, and commits just the interval before it
  pub validated : (k : ℕ) → next.answer ≡ Validated k → (k ≡ s.fabric.point + 1) × NothingUnfinished s.fabric k
  pub grows : (k : ℕ) → next.answer ≡ Validated k → LeavesBehind s next.state
  -- no other answer changes what is committed or released
  pub stays : ((k : ℕ) → next.answer ≢ Validated k) → (next.state.committed ≡ s.committed) × (next.state.released ≡ s.released)
  -- a recovery leaves just the cut: the last state of the committed trace
  pub restored : (undo : Undo) → next.answer ≡ Recovered undo →
      IsRestored next.state (end_of image config.nodes s.committed) × IsUntouched s next.state
  -- the bytes given to a node only grow
  pub given : (n : ℕ) → Begins (processor_at s n).given (processor_at next.state n).given
  -- an instruction that retires waits with its record; a store-conditional is done exactly where its core has its block reserved
  pub retires : (n : ℕ) → event ≡ Step n → next.answer ≡ Retired → next.state.pending ≡ s.pending ++ retirement_of (entry_at image s n) ∷ []
  pub conditional : (n address : ℕ) → want_of image (processor_at s n).core ≡ Sc address →
      (entry_at image s n).did.sc_done ≡ is_reserved (processor_at s n).core.reservation (block_of address)
  -- and a reservation is lost only so
  pub unreserves : (n block : ℕ) → n < config.nodes → is_reserved (processor_at s n).core.reservation block ≡ true →
      is_reserved (processor_at next.state n).core.reservation block ≡ false → MayUnreserve image config s n block event
