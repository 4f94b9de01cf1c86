-- The states of the short runs, written out by their parts. The homes and the lines of a start are left as names.
use Rattle.std.proofs.Common.{◌≡◌, refl, ℕ, List, [], ◌∷◌, Option, None}
use Rattle.std.specs.Prelude.{slice_set}
use Rattle.sn_base.specs.declared.log.LogEntry.{LogEntry}
use Rattle.sn_base.specs.declared.event.Answer.{Answer}
use Rattle.sn_base.specs.declared.event.Event.{Event}
use Rattle.sn_msg.specs.declared.Body.{Body}
use Rattle.rv_core.specs.declared.state.CoreState.{CoreState}
use Rattle.rv_core.specs.declared.step.Record.{Record}
use Rattle.rv_core.specs.Core.{start_of}
use Rattle.sn_model.specs.Caches.{Line, Miss, empty_lines}
use Rattle.sn_model.specs.Fabric.{Fabric, Node, Flight, first_homes, no_switches}
use Rattle.sn_model.specs.Homes.{HomeEntry}
use Rattle.sn_model.specs.Machine.{Processor, Retirement, start_of as first_state}
use Rattle.sn_model.specs.Trace.{TraceEntry}
use Rattle.consistent_cuts.specs.Example.{storing, small, plain}
use Rattle.consistent_cuts.proofs.Walk.{Moment, Leads, Comes, leads, stays}

-- node n's core at the entry, and after its first, second and third instruction
abbrev pub begun : ℕ → CoreState
begun n = start_of n 2147483648

abbrev pub added : ℕ → CoreState
added n = record (begun n) { pc = 2147483652; x = slice_set (begun n).x 6 1 }

abbrev pub pointed : ℕ → CoreState
pointed n = record (begun n) { pc = 2147483656; x = slice_set (added n).x 5 2147487744 }

abbrev pub stored : ℕ → CoreState
stored n = record (pointed n) { pc = 2147483660 }

abbrev pub processor : CoreState → List CoreState → Processor
processor core checkpoints = record { core = core; checkpoints = checkpoints; given = [] }

abbrev pub waits : ℕ → ℕ → Retirement
waits n interval = record { interval = interval; did = plain n }

-- a node that knows of no recovery point but the first, and one without a line; a message in its switch
abbrev pub node : ℕ → List Line → Option Miss → List LogEntry → Node
node now lines miss log = record { now = now; known = 0; cache = record { lines = lines; miss = miss; put = None }; log = log }

abbrev pub bare : ℕ → Node
bare now = node now empty_lines None []

abbrev pub flight : ℕ → ℕ → ℕ → ℕ → ℕ → Body → ℕ → Flight
flight id from to tag block body place =
    record { message = record { id = id; from = from; to = to; tag = tag; block = block; body = body }; place = place }

abbrev pub homes : List HomeEntry
homes = first_homes storing

abbrev pub fabric : List Node → List HomeEntry → List Flight → ℕ → ℕ → Fabric
fabric nodes entries flights next point = record {
  nodes = nodes;
  homes = entries;
  net = record { flights = flights; dead = no_switches; planned = no_switches; next_id = next };
  point = point;
}

abbrev pub moment : Fabric → List Processor → List ℕ → List Retirement → List Record → List TraceEntry → Moment
moment f processors reported pending committed trace = record {
  state = record {
    fabric = f;
    processors = processors;
    reported = reported;
    pending = pending;
    committed = committed;
    held = [];
    released = [];
  };
  trace = trace;
}

abbrev pub start : Moment
start =
    moment (fabric (bare 0 ∷ bare 0 ∷ []) homes [] 1 0) (processor (begun 0) (begun 0 ∷ []) ∷ processor (begun 1) (begun 1 ∷ []) ∷ [])
    (0 ∷ 0 ∷ []) [] [] []

pub is_start : start.state ≡ first_state storing 2
is_start = refl

infixr 10 ◌⨾◌
-- an event, and those after it
pub ◌⨾◌ : {a b c : Moment} {event : Event} {answer : Answer} {events : List Event} →
    Leads storing small a event answer b → Comes storing small b events c → Comes storing small a (event ∷ events) c
h ⨾ k = leads storing small h k

pub no_more : {a : Moment} → Comes storing small a [] a
no_more {a = a} = stays storing small a
