-- The pieces of events, and then those of the end.
use Rattle.std.proofs.Common.{◌≡◌, ℕ, suc, ◌+◌, List, [], ◌∷◌, ◌++◌, take, drop, length, refl, ap, sym, ◌∙◌, append_assoc, arith}
use Rattle.sn_base.specs.Image.{ImageData}
use Rattle.sn_base.specs.declared.config.Config.{Config}
use Rattle.sn_base.specs.declared.event.Event.{Event}
use Rattle.std.proofs.lemmas.List.{take-append-drop}
use Rattle.sn_model.specs.Machine.{State, start_of}
use Rattle.sink_pieces.specs.Pieces.{Piece}
use Rattle.sn_model.specs.Step.{step_of, state_after}
use Rattle.script_replay.specs.declared.job.Showing.{Showing}
use Rattle.script_replay.specs.Pieces.{end_pieces, turn_pieces, turns_from, turns_of, pieces_from}

pub pieces-split : (image : ImageData) (config : Config) (showing : Showing) (tallies : List (List ℕ)) (done : ℕ) (s : State)
    (events : List Event) → pieces_from image config showing tallies done s events
    ≡ turns_from image config showing done s events
    ++ end_pieces image config showing tallies (done + length events) (state_after image config s events)
unfolding turns_from pieces_from
pieces-split image config showing tallies done s [] = ap (λ k. end_pieces image config showing tallies k s) (omega arith)
pieces-split image config showing tallies done s (event ∷ events) =
    let next : State = (step_of image config s event).state in
    let last : State = state_after image config next events in
    ap (λ t. turn_pieces image config showing (done + 1) s event ++ t) (pieces-split image config showing tallies (done + 1) next events)
    ∙ sym (append_assoc (turn_pieces image config showing (done + 1) s event) (turns_from image config showing (done + 1) next events)
    (end_pieces image config showing tallies (done + 1 + length events) last))
    ∙ ap (λ k. (turn_pieces image config showing (done + 1) s event ++ turns_from image config showing (done + 1) next events)
    ++ end_pieces image config showing tallies k last) (omega arith)

-- the pieces of the first events come before those of the others
turns-split : (image : ImageData) (config : Config) (showing : Showing) (done : ℕ) (s : State) (first others : List Event) →
    (rest : List Piece) × (turns_from image config showing done s first ++ rest ≡ turns_from image config showing done s (first ++ others))
unfolding turns_from
turns-split image config showing done s [] others = (turns_from image config showing done s others, refl)
turns-split image config showing done s (event ∷ first) others =
    let more = turns-split image config showing (done + 1) (step_of image config s event).state first others in (
      more.0,
      append_assoc (turn_pieces image config showing (done + 1) s event)
          (turns_from image config showing (done + 1) (step_of image config s event).state first) more.0
          ∙ ap (λ t. turn_pieces image config showing (done + 1) s event ++ t) more.1,
    )

pub turns-first : (image : ImageData) (config : Config) (showing : Showing) (events : List Event) (i : ℕ) →
    (rest : List Piece) × (turns_of image config showing (take i events) ++ rest ≡ turns_of image config showing events)
unfolding turns_of
turns-first image config showing events i =
    let split = turns-split image config showing 0 (start_of image config.nodes) (take i events) (drop i events) in
    (split.0, split.1 ∙ ap (turns_from image config showing 0 (start_of image config.nodes)) (take-append-drop i events))
