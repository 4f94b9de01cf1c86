-- The statistics of a run: what each event adds, folded over the run.
use Rattle.std.specs.Prelude.{ℕ, List, [], ◌∷◌, drop, length, slice_index}
use Rattle.sn_base.specs.Image.{ImageData}
use Rattle.sn_base.specs.declared.config.Config.{Config}
use Rattle.sn_base.specs.declared.event.Event.{Event}
use Rattle.sn_base.specs.declared.event.Answer.TheVariants.{Retired}
use Rattle.sn_model.specs.Machine.{State, start_of}
use Rattle.sn_model.specs.Instructions.{MachineStep}
use Rattle.sn_model.specs.Step.{step_of}
use Rattle.run_statistics.specs.declared.intervals.Moment.{Moment}
use Rattle.run_statistics.specs.declared.statistics.Before.{Before}
use Rattle.run_statistics.specs.declared.statistics.Statistics.{Statistics}
use Rattle.run_statistics.specs.Numbers.{bounded_sum, with_more, with_greatest_below, no_numbers}
use Rattle.run_statistics.specs.Places.{place_of_answer}
use Rattle.run_statistics.specs.Messages.{no_messages, messages_with}
use Rattle.run_statistics.specs.Instructions.{no_instructions, waiting_by_node, instructions_with}
use Rattle.run_statistics.specs.Logs.{no_logs, logs_with}
use Rattle.run_statistics.specs.Owned.{owned_blocks}
use Rattle.run_statistics.specs.Intervals.{no_intervals, intervals_with}
use Rattle.run_statistics.specs.Bytes.{no_bytes, bytes_with}
use Rattle.run_statistics.specs.Recoveries.{no_recoveries, recoveries_with}

abbrev pub no_statistics : Statistics
no_statistics = record {
  events = 0;
  answers = no_numbers;
  messages = no_messages;
  instructions = no_instructions;
  logs = no_logs;
  most_owned = no_numbers;
  intervals = no_intervals;
  bytes = no_bytes;
  recoveries = no_recoveries;
}

-- what is there before an event: records and bytes that wait or are committed, and messages
abbrev pub before_of : State → Before
before_of s = record {
  committed = length s.committed;
  waiting = length s.pending;
  held = length s.held;
  flights = length s.fabric.net.flights;
}

-- the moment of the event of this number, once its answer is counted
abbrev pub moment_of : ℕ → List ℕ → Moment
moment_of number answers = record { event = number; retired = slice_index answers (place_of_answer Retired) }

-- an event on a machine of so many nodes, before which there was so much, and what it came to: what is counted at once,
abbrev pub with_counts : ℕ → Statistics → Before → Event → MachineStep → Statistics
with_counts nodes x before event step = record x {
  events = bounded_sum x.events 1;
  answers = with_more x.answers (place_of_answer step.answer) 1;
  messages = messages_with x.messages step.answer step.sent before.flights (length step.state.fabric.net.flights);
  instructions =
      instructions_with x.instructions event step.answer (drop before.committed step.state.committed) (waiting_by_node step.state.pending);
  logs = logs_with x.logs nodes step.state.fabric;
  most_owned = with_greatest_below (owned_blocks step.state.fabric) nodes x.most_owned;
}

-- what is counted by the number of the event,
abbrev pub with_lists : ℕ → Statistics → Before → Event → MachineStep → Statistics
with_lists nodes x before event step = record x {
  intervals = intervals_with x.intervals (moment_of x.events x.answers) step.answer nodes step.state.fabric;
  bytes = bytes_with x.bytes x.events event step.answer (drop before.held step.state.held);
  recoveries = recoveries_with x.recoveries x.events before.waiting step.answer step.sent;
}

-- and both, in this order
abbrev pub statistics_with : ℕ → Statistics → Before → Event → MachineStep → Statistics
statistics_with nodes x before event step = with_lists nodes (with_counts nodes x before event step) before event step

-- these events, from this state on
unfoldable pub statistics_from : ImageData → Config → State → List Event → Statistics → Statistics
statistics_from image config s [] x = x
statistics_from image config s (event ∷ events) x =
    statistics_from image config (step_of image config s event).state events (statistics_with config.nodes x (before_of s) event (step_of image config s event))

-- a run's, from the program's start
unfoldable pub statistics_of : ImageData → Config → List Event → Statistics
statistics_of image config events = statistics_from image config (start_of image config.nodes) events no_statistics
