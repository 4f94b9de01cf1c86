-- What a drive puts beside what a replay puts that shows the same, by what is shown.
use Rattle.std.proofs.Common.{◌≡◌, ℕ, ◌+◌, List, [], ◌∷◌, ◌++◌, length, refl, ap, sym, subst, ◌∙◌}
use Rattle.std.proofs.Common.{append_assoc, arith}
use Rattle.std.specs.Prelude.{Option, None}
use Rattle.sn_base.specs.Image.{ImageData}
use Rattle.sn_base.specs.declared.config.Config.{Config}
use Rattle.sn_base.specs.declared.event.Event.{Event}
use Rattle.sn_model.specs.Machine.{State, start_of}
use Rattle.sn_model.specs.Step.{step_of, state_after}
use Rattle.sn_machine.specs.Machine.{MachineData}
use Rattle.consistent_cuts.specs.Headline.{state_of_run}
use Rattle.sink_pieces.specs.Pieces.{Piece, Ends, after, Breaks, console_text}
use Rattle.sink_pieces.proofs.PieceLaws.{after-nil, console_text-append}
use Rattle.script_replay.specs.declared.job.Showing.{Showing}
use Rattle.script_replay.specs.declared.job.ReportKind.TheVariants.{Summary}
use Rattle.script_replay.specs.Pieces as script
use Rattle.script_replay.proofs.Shown.{console_text-turn, console_text-turns}
use Rattle.shown_states.specs.Pieces as states
use Rattle.shown_states.proofs.Moments.{quiet-report, console-from}
use Rattle.driven_replay.specs.declared.job.DriveShowing.{DriveShowing}
use Rattle.driven_replay.specs.declared.job.DriveShowing.TheVariants.{Replay, States}
use Rattle.driven_replay.specs.Pieces.{start_pieces, event_pieces, end_pieces, replay_pieces}
use Rattle.driven_replay.specs.Answered.{IsFresh, start_now}

-- a replay that shows nothing
abbrev pub quiet : Showing
quiet = record { report = Summary; watch = None }

-- the pieces of these events, after so many others that led to this state
abbrev pub turns-along : ImageData → Config → DriveShowing → ℕ → State → List Event → List Piece
turns-along image config (Replay showing) done s events = script.turns_from image config showing done s events
turns-along image config (States watch) done s events = states.turns_from image config None done s events

module _ (image : ImageData) (config : Config) where
  pub along-none : (showing : DriveShowing) (done : ℕ) (s : State) → turns-along image config showing done s [] ≡ []
  unfolding script.turns_from states.turns_from
  along-none (Replay showing) done s = refl
  along-none (States watch) done s = refl

  pub along-more : (showing : DriveShowing) (done : ℕ) (s : State) (event : Event) (events : List Event) →
      turns-along image config showing done s (event ∷ events)
      ≡ event_pieces image config showing (done + 1) s event
      ++ turns-along image config showing (done + 1) (step_of image config s event).state events
  unfolding script.turns_from states.turns_from
  along-more (Replay showing) done s event events = refl
  along-more (States watch) done s event events = refl

  -- a replay puts the start, its events and the end

  pieces-split : (showing : Showing) (tallies : List (List ℕ)) (done : ℕ) (s : State) (events : List Event) →
      script.pieces_from image config showing tallies done s events
      ≡ script.turns_from image config showing done s events
      ++ script.end_pieces image config showing tallies (done + length events) (state_after image config s events)
  unfolding script.turns_from script.pieces_from
  pieces-split showing tallies done s [] =
      let same : done ≡ done + 0 = omega arith in
      ap (λ n. script.end_pieces image config showing tallies n s) same
  pieces-split showing tallies done s (event ∷ events) =
      let next : State = (step_of image config s event).state in
      let same : done + 1 + length events ≡ done + length (event ∷ events) = omega arith in
      ap (λ t. script.turn_pieces image config showing (done + 1) s event ++ t) (pieces-split showing tallies (done + 1) next events)
      ∙ sym (append_assoc (script.turn_pieces image config showing (done + 1) s event)
      (script.turns_from image config showing (done + 1) next events)
      (script.end_pieces image config showing tallies (done + 1 + length events) (state_after image config next events)))
      ∙ ap (λ n. (script.turn_pieces image config showing (done + 1) s event ++ script.turns_from image config showing (done + 1) next events)
      ++ script.end_pieces image config showing tallies n (state_after image config next events)) same

  pub replay-is : (showing : DriveShowing) (tallies : List (List ℕ)) (events : List Event) →
      replay_pieces image config showing tallies events
      ≡ (start_pieces image config showing ++ turns-along image config showing 0 (start_of image config.nodes) events)
      ++ end_pieces image config showing tallies (length events) (state_of_run image config events)
  unfolding script.pieces_of states.pieces_of states.turns_of
  replay-is (Replay showing) tallies events =
      let same : 0 + length events ≡ length events = omega arith in
      pieces-split showing tallies 0 (start_of image config.nodes) events
      ∙ ap (λ n. script.turns_from image config showing 0 (start_of image config.nodes) events
      ++ script.end_pieces image config showing tallies n (state_of_run image config events)) same
  replay-is (States watch) tallies events = refl

  -- what is shown makes no difference to the console

  pub console-start : (showing : DriveShowing) → console_text (start_pieces image config showing) ≡ []
  console-start (Replay showing) = refl
  console-start (States watch) = quiet-report (states.opening_text image config None 0 (start_of image config.nodes))

  pub console-end : (showing : DriveShowing) (tallies : List (List ℕ)) (done : ℕ) (s : State) →
      console_text (end_pieces image config showing tallies done s) ≡ []
  unfolding script.turns_from script.pieces_from
  console-end (Replay showing) tallies done s = console_text-turns image config showing tallies done s []
  console-end (States watch) tallies done s = refl

  console-quiet : (showing : Showing) (done : ℕ) (s : State) (events : List Event) →
      console_text (script.turns_from image config showing done s events) ≡ console_text (script.turns_from image config quiet done s events)
  unfolding script.turns_from
  console-quiet showing done s [] = refl
  console-quiet showing done s (event ∷ events) =
      let next : State = (step_of image config s event).state in
      console_text-append (script.turn_pieces image config showing (done + 1) s event) (script.turns_from image config showing (done + 1) next events)
      ∙ ap (λ t. t ++ console_text (script.turns_from image config showing (done + 1) next events))
      (console_text-turn image config showing (done + 1) s event ∙ sym (console_text-turn image config quiet (done + 1) s event))
      ∙ ap (λ t. console_text (script.turn_pieces image config quiet (done + 1) s event) ++ t) (console-quiet showing (done + 1) next events)
      ∙ sym (console_text-append (script.turn_pieces image config quiet (done + 1) s event)
      (script.turns_from image config quiet (done + 1) next events))

  pub console-along : (showing : DriveShowing) (done : ℕ) (s : State) (events : List Event) →
      console_text (turns-along image config showing done s events) ≡ console_text (script.turns_from image config quiet done s events)
  console-along (Replay showing) done s events = console-quiet showing done s events
  console-along (States watch) done s events = console-from image config None None done s events

-- the start of a machine that is at its program's start

pub start-none : (e : Ends) (m : MachineData) (showing : DriveShowing) (asked : Showing) → showing ≡ Replay asked →
    e ≡ after e (start_now m showing)
start-none e m showing asked is = sym (after-nil e) ∙ ap (λ (t : DriveShowing). after e (start_now m t)) (sym is)

module _ (m : MachineData) (fresh : IsFresh m) (showing : DriveShowing) (watch : Option ℕ) (is : showing ≡ States watch) where
  abbrev opening : List Piece
  opening = states.report_piece (states.opening_text m.image m.config None m.applied m.state)

  opening-is : opening ≡ start_now m showing
  opening-is =
      ap (λ k. states.report_piece (states.opening_text m.image m.config None k m.state)) fresh.new
      ∙ ap (λ (s : State). states.report_piece (states.opening_text m.image m.config None 0 s)) fresh.start
      ∙ ap (λ (t : DriveShowing). start_now m t) (sym is)

  pub start-broken : (a b : Ends) → Breaks opening a b → Breaks (start_now m showing) a b
  start-broken a b broken = subst (λ (t : List Piece). Breaks t a b) opening-is broken
