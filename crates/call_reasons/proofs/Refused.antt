-- A replay's refusals are counted, event by event.
use Rattle.std.proofs.Common.{◌≡◌, ℕ, ◌+◌, ◌<◌, List, [], ◌∷◌, drop, length, get_or, ap, sym, ◌∙◌, arith}
use Rattle.std.proofs.lemmas.List.{drop_more, drop_all}
use Rattle.sn_base.specs.declared.event.Event.{Event}
use Rattle.sn_machine.specs.Machine.{MachineData, next_of}
use Rattle.script_replay.specs.Played.{after_event}
use Rattle.call_reasons.specs.declared.refusals.Refusals.{Refusals}
use Rattle.call_reasons.specs.Notes.{with_answer, refusals_from}

module _ (events : List Event) (i : ℕ) where
  -- one more
  pub found_next : (event : Event) → i < length events → event ≡ get_or events i event → (m : MachineData) (place : ℕ) (r all : Refusals) →
      refusals_from m place r (drop i events) ≡ all →
      refusals_from (after_event m event) (place + 1) (with_answer r place event (next_of m event).answer) (drop (i + 1) events) ≡ all
  found_next event below is m place r all h =
      ap (refusals_from m place r) (sym (drop_more events i event below ∙ ap (λ e. e ∷ drop (i + 1) events) (sym is))) ∙ h

  -- none is left
  pub found_last : length events ≡ i → (m : MachineData) (place : ℕ) (r all : Refusals) → refusals_from m place r (drop i events) ≡ all → r ≡ all
  found_last end m place r all h = ap (refusals_from m place r) (sym (drop_all i events (omega (arith, end)))) ∙ h
