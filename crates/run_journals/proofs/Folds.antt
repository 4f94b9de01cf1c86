-- What a run's events, folded from a state, come to with one event more.
use Rattle.std.proofs.Common.{◌≡◌, ℕ, suc, List, [], ◌∷◌, ◌++◌, map, length, refl, ap, ◌∙◌}
use Rattle.std.proofs.lemmas.List.{map-append, length-map}
use Rattle.sn_base.specs.Image.{ImageData}
use Rattle.sn_base.specs.declared.config.Config.{Config}
use Rattle.sn_base.specs.declared.event.Event.{Event}
use Rattle.sn_model.specs.Machine.{State}
use Rattle.sn_model.specs.Instructions.{MachineStep}
use Rattle.sn_model.specs.Step.{step_of, state_after, run_of}
use Rattle.due_events.specs.Numbers.{Numbers, first_numbers, numbers_after}
use Rattle.due_events.specs.Runs.{numbers_along}
use Rattle.run_journals.specs.declared.entry.JournalEntry.{JournalEntry}
use Rattle.run_journals.specs.Journal.{Began, start, entry_of, events_of, state_of, answers_of, numbers_of}

pub events_of-snoc : (journal : List JournalEntry) (e : JournalEntry) → events_of (journal ++ e ∷ []) ≡ events_of journal ++ e.event ∷ []
events_of-snoc journal e = map-append (λ (e : JournalEntry). e.event) journal (e ∷ [])

state_after-snoc : (image : ImageData) (config : Config) (s : State) (events : List Event) (event : Event) →
    state_after image config s (events ++ event ∷ []) ≡ (step_of image config (state_after image config s events) event).state
state_after-snoc image config s [] event = refl
state_after-snoc image config s (first ∷ events) event = state_after-snoc image config (step_of image config s first).state events event

run_of-snoc : (image : ImageData) (config : Config) (s : State) (events : List Event) (event : Event) →
    run_of image config s (events ++ event ∷ []) ≡ run_of image config s events
    ++ step_of image config (state_after image config s events) event ∷ []
run_of-snoc image config s [] event = refl
run_of-snoc image config s (first ∷ events) event =
    ap (λ (l : List MachineStep). step_of image config s first ∷ l) (run_of-snoc image config (step_of image config s first).state events event)

numbers_along-snoc : (image : ImageData) (config : Config) (s : State) (x : Numbers) (events : List Event) (event : Event) →
    numbers_along image config s x (events ++ event ∷ [])
    ≡ numbers_after (numbers_along image config s x events) event (step_of image config (state_after image config s events) event).answer
numbers_along-snoc image config s x [] event = refl
numbers_along-snoc image config s x (first ∷ events) event =
    numbers_along-snoc image config (step_of image config s first).state
    (numbers_after x first (step_of image config s first).answer) events event

module _ (began : Began) (journal : List JournalEntry) (worker : ℕ) (event : Event) where
  abbrev entries : List JournalEntry
  entries = journal ++ entry_of worker event ∷ []

  pub state_of-snoc : state_of began (journal ++ entry_of worker event ∷ [])
      ≡ (step_of began.image began.config (state_of began journal) event).state
  unfolding state_of
  state_of-snoc =
      ap (λ (l : List Event). state_after began.image began.config (start began) l) (events_of-snoc journal (entry_of worker event))
      ∙ state_after-snoc began.image began.config (start began) (events_of journal) event

  pub answers_of-snoc : answers_of began (journal ++ entry_of worker event ∷ []) ≡ answers_of began journal
      ++ (step_of began.image began.config (state_of began journal) event).answer ∷ []
  unfolding state_of answers_of
  answers_of-snoc =
      ap (λ (l : List Event). map (λ (t : MachineStep). t.answer) (run_of began.image began.config (start began) l))
      (events_of-snoc journal (entry_of worker event))
      ∙ ap (λ (l : List MachineStep). map (λ (t : MachineStep). t.answer) l)
      (run_of-snoc began.image began.config (start began) (events_of journal) event)
      ∙ map-append (λ (t : MachineStep). t.answer) (run_of began.image began.config (start began) (events_of journal))
      (step_of began.image began.config (state_after began.image began.config (start began) (events_of journal)) event ∷ [])

  pub numbers_of-snoc : numbers_of began (journal ++ entry_of worker event ∷ [])
      ≡ numbers_after (numbers_of began journal) event (step_of began.image began.config (state_of began journal) event).answer
  unfolding state_of numbers_of
  numbers_of-snoc =
      ap (λ (l : List Event). numbers_along began.image began.config (start began) first_numbers l)
      (events_of-snoc journal (entry_of worker event))
      ∙ numbers_along-snoc began.image began.config (start began) first_numbers (events_of journal) event

-- each event has one answer
length-run_of : (image : ImageData) (config : Config) (s : State) (events : List Event) →
    length (run_of image config s events) ≡ length events
length-run_of image config s [] = refl
length-run_of image config s (first ∷ events) = ap (λ n. suc n) (length-run_of image config (step_of image config s first).state events)

pub length-answers_of : (began : Began) (journal : List JournalEntry) → length (answers_of began journal) ≡ length journal
unfolding answers_of
length-answers_of began journal =
    length-map (run_of began.image began.config (start began) (events_of journal)) (λ (t : MachineStep). t.answer)
    ∙ length-run_of began.image began.config (start began) (events_of journal) ∙ length-map journal (λ (e : JournalEntry). e.event)
