-- What is counted of instructions, by the node whose they are.
use Rattle.std.specs.Prelude.{ℕ, List, [], ◌∷◌, slice_index}
use Rattle.sn_base.specs.declared.event.Event.{Event}
use Rattle.sn_base.specs.declared.event.Event.TheVariants.{Step}
use Rattle.sn_base.specs.declared.event.Answer.{Answer}
use Rattle.sn_base.specs.declared.event.Answer.TheVariants.{Retired, Validated, Recovered}
use Rattle.rv_core.specs.declared.step.Record.{Record}
use Rattle.sn_model.specs.Machine.{Retirement}
use Rattle.sn_model.specs.Instructions.{records_of}
use Rattle.run_statistics.specs.declared.instructions.InstructionStatistics.{InstructionStatistics}
use Rattle.run_statistics.specs.Numbers.{with_greater, with_one_each, with_all, no_numbers, times_named}
use Rattle.run_statistics.specs.Records.{nodes_of}

abbrev pub no_instructions : InstructionStatistics
no_instructions = record { retired = no_numbers; committed = no_numbers; taken_back = no_numbers; waiting = no_numbers; most_waiting = no_numbers }

-- how many records of each node wait for a validation
abbrev pub waiting_by_node : List Retirement → List ℕ
waiting_by_node pending = times_named (nodes_of (records_of pending))

-- the node whose instruction an event retired
abbrev pub node_of_step : Event → List ℕ
node_of_step (Step n) = n ∷ []
node_of_step _ = []

abbrev pub retired_by : Event → Answer → List ℕ
retired_by event Retired = node_of_step event
retired_by event _ = []

-- the records that a validation committed
abbrev pub committed_by : Answer → List Record → List Record
committed_by (Validated k) records = records
committed_by _ records = []

-- with so many of each node that waited, which a recovery took back
abbrev pub with_taken_back : Answer → List ℕ → List ℕ → List ℕ
with_taken_back (Recovered undo) waiting numbers = with_all waiting numbers
with_taken_back _ waiting numbers = numbers

-- the greater of two at each of these places
abbrev pub with_greater_each : List ℕ → List ℕ → List ℕ → List ℕ
with_greater_each numbers others [] = numbers
with_greater_each numbers others (place ∷ places) = with_greater_each (with_greater numbers place (slice_index others place)) others places

-- after an event with this answer, by which these records were committed, and after which so many of each node wait: more of a
-- node's wait only where one of its instructions retired
abbrev pub instructions_with : InstructionStatistics → Event → Answer → List Record → List ℕ → InstructionStatistics
instructions_with x event answer records waiting = record {
  retired = with_one_each x.retired (retired_by event answer);
  committed = with_one_each x.committed (nodes_of (committed_by answer records));
  taken_back = with_taken_back answer x.waiting x.taken_back;
  waiting = waiting;
  most_waiting = with_greater_each x.most_waiting waiting (retired_by event answer);
}

-- how many wait after an event, by those that waited before it
abbrev pub waiting_after : List ℕ → Event → Answer → List Retirement → List ℕ
waiting_after waiting event Retired pending = with_one_each waiting (node_of_step event)
waiting_after waiting event (Validated k) pending = waiting_by_node pending
waiting_after waiting event (Recovered undo) pending = waiting_by_node pending
waiting_after waiting event _ pending = waiting
