-- The answers to lines beside the pieces of a replay of their events.
use Rattle.std.proofs.Common.{◌≡◌, ℕ, ◌+◌, ◌≤◌, false, cond, List, [], ◌∷◌, ◌++◌, length, map, refl, ap, sym, subst, ◌∙◌}
use Rattle.std.proofs.Common.{length-append, arith}
use Rattle.std.proofs.lemmas.List.{take_all, map-id}
use Rattle.std.proofs.lemmas.Simd.{map-map}
use Rattle.std.specs.Prelude.{None}
use Rattle.sn_base.specs.Image.{ImageData}
use Rattle.sn_base.specs.declared.config.Config.{Config}
use Rattle.sn_base.specs.declared.event.Event.{Event}
use Rattle.sn_model.specs.Machine.{State, start_of}
use Rattle.sn_model.specs.Step.{step_of}
use Rattle.consistent_cuts.specs.Headline.{IsRun, state_of_run}
use Rattle.line_source.specs.Lines.{LineRead}
use Rattle.sn_probe.specs.Probes.{Meter, told_from}
use Rattle.sink_pieces.specs.Pieces.{Piece, ends, after, console_text}
use Rattle.sink_pieces.proofs.PieceLaws.{console_text-append}
use Rattle.script_replay.specs.declared.job.ReportKind.TheVariants.{Trace, Summary}
use Rattle.script_replay.specs.Pieces.{turns_of, pieces_of}
use Rattle.script_replay.specs.Probed.{answers_along, told_of_run}
use Rattle.script_replay.specs.Shown.{output_of, IsShown}
use Rattle.script_replay.proofs.Shown.{shown-all}
use Rattle.driven_replay.specs.declared.job.DriveShowing.{DriveShowing}
use Rattle.driven_replay.specs.declared.job.Said.{Said}
use Rattle.driven_replay.specs.declared.job.Said.TheVariants.{Nothing, Does, Foresees, Looks, Marks, Back, Refused}
use Rattle.driven_replay.specs.Pieces.{start_pieces, event_pieces, end_pieces, replay_pieces}
use Rattle.driven_replay.specs.Dues.{numbers_of}
use Rattle.driven_replay.specs.Said.{said_by, done_after, events_of, event_in, goes_back, NeverBack}
use Rattle.driven_replay.specs.Answers.{answer_of, answer_to, answers_after, pieces_to}
use Rattle.driven_replay.specs.Driven.{is_event, good_lines}
use Rattle.driven_replay.specs.Told.{told_by, told_along}
use Rattle.driven_replay.proofs.Lines.{events-last, events-in, on-first, on-others, forward}
use Rattle.driven_replay.proofs.After.{state-last}
use Rattle.driven_replay.proofs.Showings.{quiet, turns-along, along-none, along-more, replay-is, console-start, console-along}
use Rattle.sn_base.specs.declared.limits.TheConstants.{EVENTS}

module _ (image : ImageData) (config : Config) (showing : DriveShowing) where
  -- the turns of these events, which come after those
  abbrev turns-after : List Event → List Event → List Piece
  turns-after done events = turns-along image config showing (length done) (state_of_run image config done) events

  abbrev said-pieces : List Event → ℕ → Said → List Piece
  said-pieces done number said =
      answer_of image config showing (length done) (state_of_run image config done) (numbers_of image config done) number said

  -- an event more
  turns-event : (done rest : List Event) (event : Event) →
      turns-after done (event ∷ rest)
      ≡ event_pieces image config showing (length done + 1) (state_of_run image config done) event ++ turns-after (done ++ event ∷ []) rest
  turns-event done rest event =
      let count : length done + 1 ≡ length (done ++ event ∷ []) = sym (length-append done (event ∷ [])) in
      along-more image config showing (length done) (state_of_run image config done) event rest
      ∙ ap (λ n. event_pieces image config showing (length done + 1) (state_of_run image config done) event
      ++ turns-along image config showing n (step_of image config (state_of_run image config done) event).state rest) count
      ∙ ap (λ (s : State). event_pieces image config showing (length done + 1) (state_of_run image config done) event
      ++ turns-along image config showing (length (done ++ event ∷ [])) s rest)
      (sym (state-last image config (start_of image config.nodes) done event))

  -- what a line puts to the console, and then the turns of the events after it
  console-said : (done rest : List Event) (number : ℕ) (said : Said) → goes_back said ≡ false →
      console_text (said-pieces done number said) ++ console_text (turns-after (done_after done said) rest)
      ≡ console_text (turns-after done (event_in said ++ rest))
  console-said done rest number (Does event) on =
      sym (ap (λ t. console_text t) (turns-event done rest event)
      ∙ console_text-append (event_pieces image config showing (length done + 1) (state_of_run image config done) event)
      (turns-after (done ++ event ∷ []) rest))
  console-said done rest number (Back events) on = absurd cc
  console-said done rest number Nothing on = refl
  console-said done rest number (Foresees event) on = refl
  console-said done rest number (Looks asked) on = refl
  console-said done rest number Marks on = refl
  console-said done rest number (Refused fault) on = refl

  -- answers put to the console what the turns of their events do, where none goes back
  console-answers : (before lines : List LineRead) → NeverBack config.nodes lines →
      console_text (answers_after image config showing before lines)
      ≡ console_text (turns-after (events_of config.nodes before) (events-in config.nodes lines))
  unfolding answers_after
  console-answers before [] on =
      ap (λ t. console_text t)
      (sym (along-none image config showing (length (events_of config.nodes before)) (state_of_run image config (events_of config.nodes before))))
  console-answers before (line ∷ lines) on =
      let done : List Event = events_of config.nodes before in
      let said : Said = said_by config.nodes line in
      console_text-append (answer_to image config showing before line) (answers_after image config showing (before ++ line ∷ []) lines)
      ∙ ap (λ t. console_text (answer_to image config showing before line) ++ t) (console-answers (before ++ line ∷ []) lines (on-others config.nodes line lines on))
      ∙ ap (λ (t : List Event). console_text (answer_to image config showing before line) ++ console_text (turns-after t (events-in config.nodes lines)))
      (events-last config.nodes before line)
      ∙ console-said done (events-in config.nodes lines) (length before + 1) said (on-first config.nodes line lines on)

  -- a line that does an event is answered as in a replay, and others are left out
  good-said : (before lines : List LineRead) (line : LineRead) (said : Said) → said_by config.nodes line ≡ said →
      ((first : List LineRead) → answers_after image config showing first (good_lines config.nodes lines)
      ≡ turns-after (events_of config.nodes first) (events-in config.nodes lines)) →
      answers_after image config showing before (cond (is_event said) (line ∷ good_lines config.nodes lines) (good_lines config.nodes lines))
      ≡ turns-after (events_of config.nodes before) (event_in said ++ events-in config.nodes lines)
  unfolding answers_after
  good-said before lines line (Does event) is others =
      let done : List Event = events_of config.nodes before in
      let rest : List Event = events-in config.nodes lines in
      ap (λ (t : Said). said-pieces done (length before + 1) t
      ++ answers_after image config showing (before ++ line ∷ []) (good_lines config.nodes lines)) is
      ∙ ap (λ t. event_pieces image config showing (length done + 1) (state_of_run image config done) event ++ t)
      (others (before ++ line ∷ [])
      ∙ ap (λ (t : List Event). turns-after t rest) (events-last config.nodes before line ∙ ap (λ (t : Said). done_after done t) is))
      ∙ sym (turns-event done rest event)
  good-said before lines line (Back events) is others = others before
  good-said before lines line Nothing is others = others before
  good-said before lines line (Foresees event) is others = others before
  good-said before lines line (Looks asked) is others = others before
  good-said before lines line Marks is others = others before
  good-said before lines line (Refused fault) is others = others before

  good-answers : (lines before : List LineRead) →
      answers_after image config showing before (good_lines config.nodes lines)
      ≡ turns-after (events_of config.nodes before) (events-in config.nodes lines)
  unfolding answers_after
  good-answers [] before =
      sym (along-none image config showing (length (events_of config.nodes before)) (state_of_run image config (events_of config.nodes before)))
  good-answers (line ∷ lines) before =
      good-said before lines line (said_by config.nodes line) refl (λ first. good-answers lines first)

  replayed-events : (tallies : List (List ℕ)) (lines : List LineRead) → let events = events-in config.nodes lines in
      replay_pieces image config showing tallies events
      ≡ pieces_to image config showing (good_lines config.nodes lines)
      ++ end_pieces image config showing tallies (length events) (state_of_run image config events)
  replayed-events tallies lines =
      let events : List Event = events-in config.nodes lines in
      replay-is image config showing tallies events
      ∙ ap (λ t. (start_pieces image config showing ++ t)
      ++ end_pieces image config showing tallies (length events) (state_of_run image config events)) (sym (good-answers lines []))

  pub replayed : (tallies : List (List ℕ)) (lines : List LineRead) → NeverBack config.nodes lines → let events = events_of config.nodes lines in
      replay_pieces image config showing tallies events
      ≡ pieces_to image config showing (good_lines config.nodes lines)
      ++ end_pieces image config showing tallies (length events) (state_of_run image config events)
  replayed tallies lines on =
      subst (λ (t : List Event). replay_pieces image config showing tallies t
      ≡ pieces_to image config showing (good_lines config.nodes lines)
      ++ end_pieces image config showing tallies (length t) (state_of_run image config t))
      (sym (forward config.nodes [] lines on)) (replayed-events tallies lines)

-- the probes are told what they are told in a replay, where none goes back

module _ (image : ImageData) (config : Config) where
  abbrev told-after : List Event → List Event → List Meter → List Meter
  told-after done events probes =
      map (told_from (length done + 1) (answers_along image config (state_of_run image config done) events)) probes

  told-event : (done rest : List Event) (event : Event) (probes : List Meter) →
      told-after (done ++ event ∷ []) rest (told_by image config done (Does event) probes) ≡ told-after done (event ∷ rest) probes
  told-event done rest event probes =
      let count : length (done ++ event ∷ []) ≡ length done + 1 = length-append done (event ∷ []) in
      ap (λ n. map (told_from (n + 1) (answers_along image config (state_of_run image config (done ++ event ∷ [])) rest))
      (told_by image config done (Does event) probes)) count
      ∙ ap (λ (s : State). map (told_from (length done + 1 + 1) (answers_along image config s rest)) (told_by image config done (Does event) probes))
      (state-last image config (start_of image config.nodes) done event)
      ∙ map-map _ _ probes

  told-said : (done rest : List Event) (said : Said) (probes : List Meter) → goes_back said ≡ false →
      told-after (done_after done said) rest (told_by image config done said probes) ≡ told-after done (event_in said ++ rest) probes
  told-said done rest (Does event) probes on = told-event done rest event probes
  told-said done rest (Back events) probes on = absurd cc
  told-said done rest Nothing probes on = refl
  told-said done rest (Foresees event) probes on = refl
  told-said done rest (Looks asked) probes on = refl
  told-said done rest Marks probes on = refl
  told-said done rest (Refused fault) probes on = refl

  told-lines : (done : List Event) (lines : List LineRead) (probes : List Meter) → NeverBack config.nodes lines →
      told_along image config done lines probes ≡ told-after done (events-in config.nodes lines) probes
  told-lines done [] probes on = sym (map-id probes)
  told-lines done (line ∷ lines) probes on =
      let said : Said = said_by config.nodes line in
      told-lines (done_after done said) lines (told_by image config done said probes) (on-others config.nodes line lines on)
      ∙ told-said done (events-in config.nodes lines) said probes (on-first config.nodes line lines on)

  pub told-run : (lines : List LineRead) (probes : List Meter) → NeverBack config.nodes lines →
      told_along image config [] lines probes ≡ told_of_run image config (events_of config.nodes lines) probes
  told-run lines probes on =
      told-lines [] lines probes on ∙ ap (λ (t : List Event). told_of_run image config t probes) (sym (forward config.nodes [] lines on))

-- a replay that shows nothing puts the output of the committed trace to the console

no-trace : Summary ≡ Trace → ⊥
no-trace is = cc

module _ (image : ImageData) (config : Config) (events : List Event) (run : IsRun config events) (few : length events ≤ EVENTS) where
  shown : IsShown image config quiet [] events (ends None None) (after (ends None None) (pieces_of image config quiet [] events))
  shown = shown-all image config quiet [] events (ends None None) _ run few (λ is. absurd (no-trace is)) refl

  quiet-output : console_text (turns_of image config quiet events) ≡ output_of image config events
  quiet-output =
      subst (λ (t : List Event). console_text (turns_of image config quiet t) ≡ output_of image config t)
      (take_all (length events) events (omega arith)) (shown.in_step (length events)).output

-- so the start and answers put the output of the committed trace to the console, where none goes back
pub pieces-output : (image : ImageData) (config : Config) (showing : DriveShowing) (lines : List LineRead) → NeverBack config.nodes lines →
    IsRun config (events_of config.nodes lines) → length (events_of config.nodes lines) ≤ EVENTS →
    console_text (pieces_to image config showing lines) ≡ output_of image config (events_of config.nodes lines)
unfolding turns_of
pieces-output image config showing lines on run few =
    console_text-append (start_pieces image config showing) (answers_after image config showing [] lines)
    ∙ ap (λ t. t ++ console_text (answers_after image config showing [] lines)) (console-start image config showing)
    ∙ console-answers image config showing [] lines on
    ∙ ap (λ (t : List Event). console_text (turns-along image config showing 0 (start_of image config.nodes) t))
    (sym (forward config.nodes [] lines on))
    ∙ console-along image config showing 0 (start_of image config.nodes) (events_of config.nodes lines)
    ∙ quiet-output image config (events_of config.nodes lines) run few
