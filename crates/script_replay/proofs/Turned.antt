-- Events of a list are applied, told and put one after another, counted from a place on.
use Rattle.std.proofs.Common.{◌≡◌, ℕ, ◌+◌, ◌<◌, List, [], ◌∷◌, ◌++◌, drop, length, get_or, refl, ap, sym, ◌∙◌, append-nil, arith}
use Rattle.std.proofs.lemmas.List.{drop_more, drop_all}
use Rattle.sn_base.specs.declared.event.Event.{Event}
use Rattle.due_events.specs.Machine.{MachineData}
use Rattle.sn_probe.specs.Probes.{Meter}
use Rattle.sink_pieces.specs.Pieces.{Ends, after, Breaks}
use Rattle.script_replay.specs.declared.job.Showing.{Showing}
use Rattle.script_replay.specs.Played.{after_event, after_events, turn_now, turns_left, state_left, told_next, told_left, StopsAt}
use Rattle.script_replay.proofs.Playing.{IsPlaying, playing-next, playing-told}
use Rattle.script_replay.proofs.Stops.{stops-at}
use Rattle.script_replay.proofs.ToldSoFar.{told-next}

module _ (events : List Event) (i : ℕ) (event : Event) (below : i < length events) (is : event ≡ get_or events i event) where
  left-next : drop i events ≡ event ∷ drop (i + 1) events
  left-next = drop_more events i event below ∙ ap (λ e. e ∷ drop (i + 1) events) (sym is)

  pub machine-next : (start m next : MachineData) → next ≡ after_event m event → after_events m (drop i events) ≡ after_events start events →
      after_events next (drop (i + 1) events) ≡ after_events start events
  machine-next start m next e h =
      ap (λ (x : MachineData). after_events x (drop (i + 1) events)) e ∙ ap (after_events m) (sym left-next) ∙ h

  module _ (start : MachineData) (showing : Showing) (probes : List Meter) (before : Ends) (m : MachineData) (now_ : List Meter) (behind : Ends) (h : IsPlaying start showing events probes before m (drop i events) now_ behind) (next : MachineData) (d : Ends) (told : List Meter) (after_is : next ≡ after_event m event) (knows : told ≡ told_next m event now_) where
    pub played-next : d ≡ after behind (turn_now m showing event) →
        IsPlaying start showing events probes before next (drop (i + 1) events) told d
    played-next put =
        playing-next start showing events probes before m (drop i events) now_ behind event (drop (i + 1) events) left-next h next d told after_is
        knows (drop (i + 1) events) refl put

    pub stopped : Breaks (turn_now m showing event) behind d → (k : ℕ) × StopsAt start showing events k before probes d told
    stopped broken = (
      length h.done,
      stops-at start m showing _ h.done event before behind h.put events (drop (i + 1) events) next d probes told
          (ap (λ t. h.done ++ t) (sym left-next) ∙ h.all) broken
          (told-next start m next h.done probes now_ told event after_is knows h.told),
    )

-- none is left
module _ (events : List Event) (i : ℕ) (end : length events ≡ i) where
  none-left : drop i events ≡ []
  none-left = drop_all i events (omega (arith, end))

  pub machine-last : (start m : MachineData) → after_events m (drop i events) ≡ after_events start events → m ≡ after_events start events
  machine-last start m h = ap (after_events m) (sym none-left) ∙ h

  module _ (start : MachineData) (showing : Showing) (probes : List Meter) (before : Ends) (m : MachineData) (now_ : List Meter) (behind : Ends) (h : IsPlaying start showing events probes before m (drop i events) now_ behind) where
    pub all-told : now_ ≡ told_left start events probes
    all-told = playing-told start showing events probes before m (drop i events) now_ behind none-left h

    whole : h.done ≡ events
    whole = sym (append-nil h.done) ∙ ap (λ t. h.done ++ t) (sym none-left) ∙ h.all

    pub all-put : behind ≡ after before (turns_left start showing events)
    all-put = h.put.put ∙ ap (λ (t : List Event). after before (turns_left start showing t)) whole

-- what they leave of a machine
pub left-image : (m : MachineData) (events : List Event) → (after_events m events).image ≡ m.image
left-image m [] = refl
left-image m (event ∷ events) = left-image (after_event m event) events

pub left-config : (m : MachineData) (events : List Event) → (after_events m events).config ≡ m.config
left-config m [] = refl
left-config m (event ∷ events) = left-config (after_event m event) events

pub left-state : (m : MachineData) (events : List Event) → (after_events m events).state ≡ state_left m events
left-state m [] = refl
left-state m (event ∷ events) = left-state (after_event m event) events

pub left-applied : (m : MachineData) (events : List Event) → (after_events m events).applied ≡ m.applied + length events
left-applied m [] = omega arith
left-applied m (event ∷ events) = left-applied (after_event m event) events ∙ omega arith
