-- How a run ends, by its journal.
use Rattle.std.specs.Prelude.{ℕ, zero, suc, List, Option, Some, None, option_and_then}
use Rattle.std.specs.Option.{option_or}
use Rattle.rv_core.specs.declared.state.Cause.{Cause}
use Rattle.rv_core.specs.declared.state.End.{End}
use Rattle.rv_core.specs.declared.state.End.TheVariants as core
use Rattle.rv_core.specs.Flat.{FlatState, core_at}
use Rattle.rv_core.specs.Execution.{end_of}
use Rattle.node_threads.specs.JournalEntry.{JournalEntry}
use Rattle.node_threads.specs.Journal.{Began, state_of}
use Rattle.node_threads.specs.Finish.{Finish}
use Rattle.node_threads.specs.Finish.TheVariants as finish
use Rattle.node_threads.specs.Finishes.{finish_by}
use Rattle.node_run.specs.declared.ending.Ending.{Ending}
use Rattle.node_run.specs.declared.ending.Ending.TheVariants as ending

-- the node and the cause, where its core trapped
abbrev pub trap_at : ℕ → End → Option (ℕ × Cause)
trap_at node (core.Trapped cause) = Some (node, cause)
trap_at node _ = None

-- the least of the first so many nodes whose core trapped
abbrev pub first_trap : ℕ → FlatState → Option (ℕ × Cause)
first_trap zero flat = None
first_trap (suc n) flat = option_or (first_trap n flat) (trap_at n (core_at flat n).end)

-- the end of a run whose cores have all ended
abbrev pub ended_by : Option (ℕ × Cause) → Ending
ended_by None = ending.Exited
ended_by (Some trap) = ending.Trapped trap.0 trap.1

-- the end by the cause for which no turn was had any more; none where the run was stopped
abbrev pub ending_by : ℕ → FlatState → Finish → Option Ending
ending_by nodes flat finish.Over = Some (ended_by (first_trap nodes flat))
ending_by nodes flat (finish.CutOff a b) = Some (ending.CutOff a b)
ending_by nodes flat finish.Budget = Some ending.Spent
ending_by nodes flat finish.Stopped = None

-- the flat machine after the committed trace of a journal
abbrev pub flat_after : Began → List JournalEntry → FlatState
flat_after began journal = end_of began.image began.config.nodes (state_of began journal).committed

-- the end of a run that has this journal; none where a further turn is had
abbrev pub ending_of : Began → List JournalEntry → Option Ending
ending_of began journal = option_and_then (ending_by began.config.nodes (flat_after began journal)) (finish_by began journal)
