-- The journal of a run whose turns are had in an order.
use Rattle.std.specs.Prelude.{ℕ, zero, suc, List, [], ◌∷◌, ◌++◌, length, Option, Some, None}
use Rattle.sn_base.specs.declared.event.Event.{Event}
use Rattle.due_events.specs.Due.{due_of}
use Rattle.run_journals.specs.declared.entry.JournalEntry.{JournalEntry}
use Rattle.run_journals.specs.Journal.{Began, entry_of, next_pick, state_of, numbers_of}
use Rattle.node_run.specs.declared.ending.Ending.{Ending}
use Rattle.node_run.specs.Endings.{ending_of}
use Rattle.turn_orders.specs.declared.order.Order.{Order}
use Rattle.turn_orders.specs.Orders.{worker_of}

-- the worker whose turn comes after these
abbrev pub next_worker : Order → Began → List JournalEntry → ℕ
next_worker order began journal = worker_of order began.seed began.config.nodes (length journal)

-- the event that is due then in a worker's turn, with the number that it draws next
abbrev pub due_after : Began → List JournalEntry → ℕ → Option Event
due_after began journal worker =
    due_of began.rules began.image began.config (state_of began journal) (numbers_of began journal) worker (next_pick began.seed journal worker)

-- a journal with a worker's turn; the same where no event is due in it
abbrev pub with_due : List JournalEntry → ℕ → Option Event → List JournalEntry
with_due journal worker None = journal
with_due journal worker (Some event) = journal ++ entry_of worker event ∷ []

-- one turn more
abbrev pub with_turn : Order → Began → List JournalEntry → List JournalEntry
with_turn order began journal =
    let worker = next_worker order began journal in with_due journal worker (due_after began journal worker)

-- the journal after so many turns in an order
unfoldable pub journal_after : Order → Began → ℕ → List JournalEntry
journal_after order began zero = []
journal_after order began (suc turns) = with_turn order began (journal_after order began turns)

-- that of the whole run, which has as many turns as its budget, and how it ends
abbrev pub ordered_journal : Order → Began → List JournalEntry
ordered_journal order began = journal_after order began began.budget

abbrev pub ordered_end : Order → Began → Option Ending
ordered_end order began = ending_of began (ordered_journal order began)
