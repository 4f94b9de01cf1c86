-- Laws of what is published in a run.
use Rattle.std.proofs.Common.{◌≡◌, ℕ, ◌≤◌, Bool, true, false, if◌then◌else◌, List, [], ◌∷◌, ◌++◌}
use Rattle.std.proofs.Common.{refl, sym, ap, ◌∙◌, arith, append_assoc, append-nil}
use Rattle.sn_base.specs.Image.{ImageData}
use Rattle.sn_base.specs.declared.config.Config.{Config}
use Rattle.sn_base.specs.declared.event.Event.{Event}
use Rattle.sn_model.specs.Machine.{State}
use Rattle.sn_model.specs.MachineEvents.{is_validated}
use Rattle.sn_model.specs.Step.{step_of, state_after}
use Rattle.run_journals.specs.declared.entry.JournalEntry.{JournalEntry}
use Rattle.run_journals.specs.Journal.{Began, start, entry_of, events_of, state_of}
use Rattle.run_journals.proofs.Folds.{events_of-snoc}
use Rattle.snap_board.specs.Snap.{SnapData}
use Rattle.snap_board.specs.Fronts.{Rises}
use Rattle.sn_monitor.specs.Cut.{snap_of}
use Rattle.sn_monitor.proofs.Points.{step_goes}
use Rattle.monitor_run.specs.Seen.{validated_along, published_by}

-- what a turn adds
abbrev pub added : Bool → SnapData → List SnapData
added b snap = if b then snap ∷ [] else []

module _ (image : ImageData) (config : Config) (watch : ℕ) where
  along-snoc : (s : State) (events : List Event) (event : Event) →
      validated_along image config watch s (events ++ event ∷ []) ≡ validated_along image config watch s events
      ++ added (is_validated (step_of image config (state_after image config s events) event).answer)
      (snap_of image config watch (step_of image config (state_after image config s events) event).state)
  along-snoc s [] event = append-nil _
  along-snoc s (first ∷ events) event =
      let next = step_of image config s first in
      ap (λ (l : List SnapData). added (is_validated next.answer) (snap_of image config watch next.state) ++ l)
      (along-snoc next.state events event)
      ∙ sym (append_assoc (added (is_validated next.answer) (snap_of image config watch next.state))
      (validated_along image config watch next.state events) _)

  -- the points grow
  abbrev next : State → Event → State
  next s event = (step_of image config s event).state

  goes-up : (first : SnapData) (s : State) (events : List Event) → first.point ≤ s.fabric.point →
      Rises (first ∷ validated_along image config watch s events)
  goes-up first s [] low = tt
  goes-up first s (event ∷ events) low =
      up (is_validated (step_of image config s event).answer) refl
      (λ high. goes-up (snap_of image config watch (next s event)) (next s event) events high)
      (λ high. goes-up first (next s event) events high)
    where
      up : (b : Bool) → is_validated (step_of image config s event).answer ≡ b →
          ((snap_of image config watch (next s event)).point ≤ (next s event).fabric.point →
          Rises (snap_of image config watch (next s event) ∷ validated_along image config watch (next s event) events)) →
          (first.point ≤ (next s event).fabric.point → Rises (first ∷ validated_along image config watch (next s event) events)) →
          Rises (first ∷ added b (snap_of image config watch (next s event)) ++ validated_along image config watch (next s event) events)
      up true is from_next from_first = (
        (let rises = (step_goes image config s event).rises is in omega (arith, low, rises)),
        from_next (omega arith),
      )
      up false is from_next from_first = from_first (let stays = (step_goes image config s event).point in omega (arith, low, stays))

module _ (began : Began) (watch : ℕ) (journal : List JournalEntry) where
  pub published-rises : Rises (published_by began watch journal)
  unfolding published_by
  published-rises =
      goes-up began.image began.config watch (snap_of began.image began.config watch (start began)) (start began) (events_of journal)
      (omega arith)

  pub published-snoc : (worker : ℕ) (event : Event) → published_by began watch (journal ++ entry_of worker event ∷ [])
      ≡ published_by began watch journal
      ++ added (is_validated (step_of began.image began.config (state_of began journal) event).answer)
      (snap_of began.image began.config watch (step_of began.image began.config (state_of began journal) event).state)
  unfolding published_by state_of
  published-snoc worker event =
      ap (λ (l : List Event). snap_of began.image began.config watch (start began)
      ∷ validated_along began.image began.config watch (start began) l)
      (events_of-snoc journal (entry_of worker event))
      ∙ ap (λ (l : List SnapData). snap_of began.image began.config watch (start began) ∷ l)
      (along-snoc began.image began.config watch (start began) (events_of journal) event)
