-- What a replay has put so far, and what is left.
use Rattle.std.proofs.Common.{◌≡◌, ℕ, List, [], ◌∷◌, ◌++◌, refl, ap, subst, ◌∙◌}
use Rattle.sn_base.specs.declared.event.Event.{Event}
use Rattle.due_events.specs.Machine.{MachineData}
use Rattle.sink_pieces.specs.Pieces.{Piece, Ends, after, Breaks}
use Rattle.sn_probe.specs.Probes.{Meter, tallies_of}
use Rattle.sink_pieces.proofs.SoFar.{SoFar, SoFar-breaks, SoFar-breaks_last, SoFar-whole}
use Rattle.script_replay.specs.declared.job.Showing.{Showing}
use Rattle.script_replay.specs.Pieces.{pieces_from}
use Rattle.script_replay.specs.Played.{after_event, end_now, turn_now, pieces_left}

-- what is left before an event, and at the end
pub pieces_left-event : (m : MachineData) (showing : Showing) (tallies : List (List ℕ)) (event : Event) (rest : List Event) →
    pieces_left m showing tallies (event ∷ rest) ≡ turn_now m showing event ++ pieces_left (after_event m event) showing tallies rest
unfolding pieces_from
pieces_left-event m showing tallies event rest = refl

pieces_left-end : (m : MachineData) (showing : Showing) (tallies : List (List ℕ)) → pieces_left m showing tallies [] ≡ end_now m showing tallies
unfolding pieces_from
pieces_left-end m showing tallies = refl

-- an event is broken off
pub SoFar-breaks_event : (all : List Piece) (m : MachineData) (showing : Showing) (tallies : List (List ℕ)) (event : Event)
    (rest : List Event) (a b d : Ends) → SoFar all (pieces_left m showing tallies (event ∷ rest)) a b →
    Breaks (turn_now m showing event) b d → Breaks all a d
SoFar-breaks_event all m showing tallies event rest a b d h broken =
    SoFar-breaks all (turn_now m showing event) _ a b d
    (subst (λ (t : List Piece). SoFar all t a b) (pieces_left-event m showing tallies event rest) h) broken

-- after the last event those of the end are put, or broken off, once the probes were told all
module _ (all : List Piece) (m : MachineData) (showing : Showing) (due now_ : List Meter) (a b d : Ends) (told : now_ ≡ due) (h : SoFar all (pieces_left m showing (tallies_of due) []) a b) where
  before_end : SoFar all (end_now m showing (tallies_of due)) a b
  before_end = subst (λ (t : List Piece). SoFar all t a b) (pieces_left-end m showing (tallies_of due)) h

  pub SoFar-end : d ≡ after b (end_now m showing (tallies_of now_)) → d ≡ after a all
  SoFar-end put =
      SoFar-whole all (end_now m showing (tallies_of due)) a b d before_end
      (put ∙ ap (λ (t : List Meter). after b (end_now m showing (tallies_of t))) told)

  pub SoFar-breaks_end : Breaks (end_now m showing (tallies_of now_)) b d → Breaks all a d
  SoFar-breaks_end broken =
      SoFar-breaks_last all (end_now m showing (tallies_of due)) a b d before_end
      (subst (λ (t : List Meter). Breaks (end_now m showing (tallies_of t)) b d) told broken)
