-- The journal of a run: what each turn did, and whose it was.
use Rattle.std.specs.Prelude.{◌≡◌, ℕ, nat_eq, List, [], ◌∷◌, ◌++◌, map, count_by}
use Rattle.sn_base.specs.Image.{ImageData}
use Rattle.sn_base.specs.declared.config.Config.{Config}
use Rattle.sn_base.specs.declared.event.Event.{Event}
use Rattle.sn_base.specs.declared.event.Answer.{Answer}
use Rattle.sn_base.specs.declared.rules.Rules.{Rules}
use Rattle.sn_model.specs.Machine.{State, start_of}
use Rattle.sn_model.specs.Step.{state_after, run_of}
use Rattle.due_events.specs.Numbers.{Numbers, first_numbers}
use Rattle.due_events.specs.Runs.{Draw, numbers_along, events_due}
use Rattle.run_journals.specs.declared.entry.JournalEntry.{JournalEntry}
use Rattle.run_journals.specs.Picks.{pick_of}

-- what a run begins with: the program, the sizes, the driver's rules, the seed, and how many events there are at most
pub record Began : Type 0 where
  pub image : ImageData
  pub config : Config
  pub rules : Rules
  pub seed : ℕ
  pub budget : ℕ

-- a worker's turn that did an event
abbrev pub entry_of : ℕ → Event → JournalEntry
entry_of worker event = record { worker = worker; event = event }

-- a journal's events
abbrev pub events_of : List JournalEntry → List Event
events_of journal = map (λ e. e.event) journal

-- how many turns a worker has had
abbrev pub turns_of : ℕ → List JournalEntry → ℕ
turns_of worker journal = count_by (λ e. nat_eq e.worker worker) journal

-- the number that a worker draws next
abbrev pub next_pick : ℕ → List JournalEntry → ℕ → ℕ
next_pick seed journal worker = pick_of seed worker (turns_of worker journal)

-- its next turn
abbrev pub next_draw : ℕ → List JournalEntry → ℕ → Draw
next_draw seed journal worker = record { worker = worker; pick = next_pick seed journal worker }

-- whose turns these were, after those before them, and what each drew
abbrev pub draws_from : ℕ → List JournalEntry → List JournalEntry → List Draw
draws_from seed before [] = []
draws_from seed before (e ∷ entries) = next_draw seed before e.worker ∷ draws_from seed (before ++ e ∷ []) entries

unfoldable pub draws_of : ℕ → List JournalEntry → List Draw
draws_of seed journal = draws_from seed [] journal

-- the run's start, and the machine, the answers and the driver's numbers after the journal's events
abbrev pub start : Began → State
start began = start_of began.image began.config.nodes

unfoldable pub state_of : Began → List JournalEntry → State
state_of began journal = state_after began.image began.config (start began) (events_of journal)

unfoldable pub answers_of : Began → List JournalEntry → List Answer
answers_of began journal = map (λ step. step.answer) (run_of began.image began.config (start began) (events_of journal))

unfoldable pub numbers_of : Began → List JournalEntry → Numbers
numbers_of began journal = numbers_along began.image began.config (start began) first_numbers (events_of journal)

-- each entry's event is the one that was due in its turn: of its worker, with the number that it drew, in the state and by the
-- numbers that the entries before it leave
unfoldable pub IsDue : Began → List JournalEntry → Type 0
IsDue began journal =
    events_due began.rules began.image began.config (start began) first_numbers (draws_of began.seed journal) ≡ events_of journal
