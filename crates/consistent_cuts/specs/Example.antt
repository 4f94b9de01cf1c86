-- Two short runs of two nodes. Messages are numbered from 1 as they are sent; switch 0 is one of node 0's.
use Rattle.std.specs.Prelude.{◌≡◌, ℕ, true, false, List, [], ◌∷◌, ◌++◌, replicate, Some, None}
use Rattle.sn_base.specs.Image.{ImageData}
use Rattle.sn_base.specs.declared.config.Config.{Config}
use Rattle.sn_base.specs.declared.event.Answer.TheVariants.{Validated, Recovered}
use Rattle.sn_base.specs.declared.event.Event.{Event}
use Rattle.sn_base.specs.declared.event.Event.TheVariants.{Step, Edge, Hop, Deliver, Lose, Report, Validate, Recover}
use Rattle.sn_msg.specs.declared.Body.TheVariants.{DataM}
use Rattle.rv_core.specs.declared.step.Record.{Record}
use Rattle.sn_model.specs.declared.cache.LineState.TheVariants.{Absent, Modified}
use Rattle.sn_model.specs.Caches.{Line, line_of}
use Rattle.sn_model.specs.Fabric.{node_at}
use Rattle.sn_model.specs.Net.{flight_of}
use Rattle.sn_model.specs.Step.{step_of}
use Rattle.sn_model.specs.Trace.{TraceEntry}
use Rattle.consistent_cuts.specs.Headline.{state_of_run, retirements}

-- addi x6, x0, 1 · lui x5, 0x80001 · sw x6, 0(x5): a store to block 64, whose home is node 0
abbrev pub storing : ImageData
storing = record {
  segments = record {
    start = 2147483648;
    size = 12;
    bytes = 19 ∷ 3 ∷ 16 ∷ 0 ∷ 183 ∷ 18 ∷ 0 ∷ 128 ∷ 35 ∷ 160 ∷ 98 ∷ 0 ∷ [];
    write = false;
    exec = true;
  } ∷ [];
  entry = 2147483648;
}

abbrev pub small : Config
small = record { nodes = 2; sets = 16; ways = 4; log = 16 }

-- the record of an instruction that neither loads nor reads; and its retirement
abbrev pub plain : ℕ → Record
plain node = record { core = node; seen = 0; sc_done = false; read = None }

abbrev pub retirement : ℕ → ℕ → TraceEntry
retirement node interval = record { interval = interval; did = plain node; out = None }

-- Node 0 does all three instructions: it gets the block from its home, and stores 1. Node 1 does its first.
abbrev pub writing : List Event
writing = Step 0 ∷ Step 0 ∷ Step 0 ∷ Deliver 1 ∷ Deliver 2 ∷ Deliver 3 ∷ Step 0 ∷ Step 1 ∷ []

-- Both clocks tick, and both nodes report checkpoint 1.
abbrev pub reporting : List Event
reporting = writing ++ Edge 0 ∷ Edge 1 ∷ Report 0 ∷ Report 1 ∷ Deliver 4 ∷ Hop 5 ∷ Deliver 5 ∷ []

-- That is validated. Node 1 does its second instruction and misses at its store; the home has node 0 give the block away.
abbrev pub moving : List Event
moving = reporting ++ Validate ∷ Step 1 ∷ Step 1 ∷ Hop 8 ∷ Deliver 8 ∷ Deliver 9 ∷ []

-- The message that carries the block and its ownership is lost, and the machine recovers.
abbrev pub losing : List Event
losing = moving ++ Lose 10 ∷ []

abbrev pub recovering : List Event
recovering = losing ++ Recover ∷ []

-- what node 0 stored: a word 1, and nothing else in its block
abbrev pub stored_block : List ℕ
stored_block = 1 ∷ replicate 63 0

-- a cache's line of block 64 after these events
abbrev pub line_after : List Event → ℕ → Line
line_after events n = line_of (node_at (state_of_run storing small events).fabric n).cache 64

-- So it goes: the block is on its way with its ownership, and then neither cache has it, nor any message; the recovery
-- gives it back to node 0 with what it had stored, and takes back what node 1 did in interval 1; what the nodes did in
-- interval 0 is committed.
pub record IsLostAndRecovered : Type 0 where
  pub transfer : flight_of (state_of_run storing small moving).fabric.net.flights 10
      ≡ Some (record { message = record { id = 10; from = 0; to = 1; tag = 1; block = 64; body = DataM stored_block 0 }; place = 0 })
  pub lost : flight_of (state_of_run storing small losing).fabric.net.flights 10 ≡ None
  pub nowhere : ((line_after losing 0).state ≡ Absent) × ((line_after losing 1).state ≡ Absent)
  pub validated : (step_of storing small (state_of_run storing small reporting) Validate).answer ≡ Validated 1
  pub recovered : (step_of storing small (state_of_run storing small losing) Recover).answer
      ≡ Recovered (record { to = 1; undone = 1; dropped = 2 })
  pub back : line_after recovering 0 ≡ record { state = Modified; content = stored_block }
  pub before : retirements storing small losing
      ≡ retirement 0 0 ∷ retirement 0 0 ∷ retirement 0 0 ∷ retirement 1 0 ∷ retirement 1 1 ∷ []
  pub after : retirements storing small recovering ≡ retirement 0 0 ∷ retirement 0 0 ∷ retirement 0 0 ∷ retirement 1 0 ∷ []
  pub committed : (state_of_run storing small recovering).committed ≡ plain 0 ∷ plain 0 ∷ plain 0 ∷ plain 1 ∷ []
  pub point : (state_of_run storing small recovering).fabric.point ≡ 1
  pub pending : (state_of_run storing small recovering).pending ≡ []

-- Node 1's clock ticks first: it retires its instruction in interval 1, and then node 0 retires its own in interval 0. Both
-- report checkpoint 2, and two validations come.
abbrev pub validating : List Event
validating =
    Edge 1 ∷ Step 1 ∷ Step 0 ∷ Edge 0 ∷ Edge 0 ∷ Edge 1 ∷ Report 0 ∷ Report 1 ∷ Deliver 1 ∷ Hop 2 ∷ Deliver 2 ∷
    Validate ∷ Validate ∷ []

-- The committed trace goes by intervals, and not by the order of retirement.
pub record IsCommittedByIntervals : Type 0 where
  pub order : retirements storing small validating ≡ retirement 1 1 ∷ retirement 0 0 ∷ []
  pub committed : (state_of_run storing small validating).committed ≡ plain 0 ∷ plain 1 ∷ []
  pub point : (state_of_run storing small validating).fabric.point ≡ 2
  pub pending : (state_of_run storing small validating).pending ≡ []
