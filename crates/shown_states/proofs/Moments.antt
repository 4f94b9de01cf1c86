-- What is put at each moment, and that the console gets the output of the committed trace and nothing else.
use Rattle.std.proofs.Common.{◌≡◌, ℕ, ◌+◌, List, [], ◌∷◌, ◌++◌, take, drop, length, refl, ap, sym, subst, ◌∙◌, append_assoc, append-nil, arith}
use Rattle.std.proofs.lemmas.List.{take_all}
use Rattle.std.specs.Prelude.{Option, None}
use Rattle.sn_base.specs.Image.{ImageData}
use Rattle.sn_base.specs.declared.config.Config.{Config}
use Rattle.sn_base.specs.declared.event.Event.{Event}
use Rattle.sn_model.specs.Machine.{State, start_of}
use Rattle.sn_model.specs.Step.{step_of}
use Rattle.consistent_cuts.specs.Headline.{state_of_run}
use Rattle.sn_io.specs.Outside.{followed_by}
use Rattle.sn_probe.specs.Probes.{Meter, tallies_of}
use Rattle.state_json.specs.Lines.{last_line}
use Rattle.sink_pieces.specs.Pieces.{Piece, Report, Ends, ends, after, Breaks, console_text, console_piece, HasBeginning}
use Rattle.sink_pieces.proofs.PieceLaws.{console_text-append}
use Rattle.sink_pieces.proofs.Begun.{console_text-piece, console-after, console-begun, report-begun}
use Rattle.script_replay.specs.declared.job.Showing.{Showing}
use Rattle.script_replay.specs.declared.job.ReportKind.TheVariants.{Trace, Summary}
use Rattle.script_replay.specs.Pieces as script
use Rattle.script_replay.specs.Shown as replayed
use Rattle.script_replay.specs.Shown.{output_of}
use Rattle.script_replay.proofs.Lawful.{run-lawful}
use Rattle.script_replay.proofs.Shown.{console_text-turn, shown-all}
use Rattle.option_values.specs.declared.places.Places.{Places}
use Rattle.shown_states.specs.declared.job.StatesReplay.{StatesReplay}
use Rattle.shown_states.specs.Pieces.{report_piece, opening_text, turn_text, state_turn, turns_from, turns_of, pieces_of}
use Rattle.shown_states.specs.Shown.{MayBegin, first_pieces, told_script, pieces_due, IsMoment, IsLawful, IsShown, IsShownInPart}
use Rattle.shown_states.proofs.Laws.{turns-first}

-- a replay that shows nothing
abbrev pub quietly : Option ℕ → Showing
quietly watch = record { report = Summary; watch = watch }

-- lines put nothing to the console

pub quiet-report : (text : List ℕ) → console_text (report_piece text) ≡ []
quiet-report [] = refl
quiet-report (byte ∷ text) = refl

module _ (image : ImageData) (config : Config) (only : Option Places) (watch : Option ℕ) where
  console-turn : (place : ℕ) (s : State) (event : Event) →
      console_text (state_turn image config only place s event)
      ≡ console_text (script.turn_pieces image config (quietly watch) place s event)
  unfolding state_turn
  console-turn place s event =
      let fresh : List ℕ = drop (length s.released) (step_of image config s event).state.released in
      console_text-append (console_piece fresh) (report_piece (turn_text image config only place s event))
      ∙ ap (λ t. console_text (console_piece fresh) ++ t) (quiet-report (turn_text image config only place s event))
      ∙ append-nil (console_text (console_piece fresh)) ∙ console_text-piece fresh
      ∙ sym (console_text-turn image config (quietly watch) place s event)

  pub console-from : (done : ℕ) (s : State) (events : List Event) →
      console_text (turns_from image config only done s events)
      ≡ console_text (script.turns_from image config (quietly watch) done s events)
  unfolding turns_from script.turns_from
  console-from done s [] = refl
  console-from done s (event ∷ events) =
      let next : State = (step_of image config s event).state in
      console_text-append (state_turn image config only (done + 1) s event) (turns_from image config only (done + 1) next events)
      ∙ ap (λ t. t ++ console_text (turns_from image config only (done + 1) next events)) (console-turn (done + 1) s event)
      ∙ ap (λ t. console_text (script.turn_pieces image config (quietly watch) (done + 1) s event) ++ t) (console-from (done + 1) next events)
      ∙ sym (console_text-append (script.turn_pieces image config (quietly watch) (done + 1) s event)
      (script.turns_from image config (quietly watch) (done + 1) next events))

  -- they are those of a replay that shows nothing
  console-same : (events : List Event) →
      console_text (turns_of image config only events) ≡ console_text (script.turns_of image config (quietly watch) events)
  unfolding turns_of script.turns_of
  console-same events =
      let s : State = start_of image config.nodes in
      let text : List ℕ = opening_text image config only 0 s in
      console_text-append (report_piece text) (turns_from image config only 0 s events)
      ∙ ap (λ t. t ++ console_text (turns_from image config only 0 s events)) (quiet-report text) ∙ console-from 0 s events

-- the summary comes last
module _ (r : StatesReplay) (probes : List Meter) where
  abbrev pub last_piece : List Piece
  last_piece =
      Report (last_line r.program r.config r.watch (tallies_of (told_script r probes)) (length r.script)
      (state_of_run r.program r.config r.script)) ∷ []

  pub due-is : pieces_due r probes ≡ turns_of r.program r.config r.only r.script ++ last_piece
  unfolding pieces_of
  due-is = refl

module _ (r : StatesReplay) (may : MayBegin r) where
  -- the trace isn't asked for
  no-trace : Summary ≡ Trace → ⊥
  no-trace is = cc

  shown : replayed.IsShown r.program r.config (quietly r.watch) [] r.script (ends None None)
      (after (ends None None) (script.pieces_of r.program r.config (quietly r.watch) [] r.script))
  shown = shown-all r.program r.config (quietly r.watch) [] r.script (ends None None) _ may.run may.few (λ is. absurd (no-trace is)) refl

  pub console-first : (i : ℕ) → console_text (first_pieces r i) ≡ output_of r.program r.config (take i r.script)
  console-first i = console-same r.program r.config r.only r.watch (take i r.script) ∙ (shown.in_step i).output

  console-script : console_text (turns_of r.program r.config r.only r.script) ≡ output_of r.program r.config r.script
  console-script =
      subst (λ (t : List Event). console_text (turns_of r.program r.config r.only t) ≡ output_of r.program r.config t)
      (take_all (length r.script) r.script (omega arith)) (console-first (length r.script))

  module _ (probes : List Meter) where
    console-due : console_text (pieces_due r probes) ≡ output_of r.program r.config r.script
    console-due =
        ap console_text (due-is r probes) ∙ console_text-append (turns_of r.program r.config r.only r.script) (last_piece r probes)
        ∙ append-nil (console_text (turns_of r.program r.config r.only r.script)) ∙ console-script

    moment : (i : ℕ) → IsMoment r probes (take i r.script)
    moment i =
        let split = turns-first r.program r.config r.only r.script i in
        record {
          consistent = run-lawful r.program r.config r.script may.run i;
          others = split.0 ++ last_piece r probes;
          order = sym (append_assoc (first_pieces r i) split.0 (last_piece r probes)) ∙ ap (λ t. t ++ last_piece r probes) split.1 ∙ sym (due-is r probes);
          output = console-first i;
        }

    pub is-lawful : IsLawful r probes
    is-lawful = moment

    module _ (before behind : Ends) where
      pub all-put : behind ≡ after before (pieces_due r probes) → IsShown r probes before behind
      all-put put = record {
        put = put;
        lawful = is-lawful;
        output = console-after before behind (pieces_due r probes) put ∙ ap (followed_by before.console) console-due;
      }

      pub part-put : Breaks (pieces_due r probes) before behind → IsShownInPart r probes before behind
      part-put broken = record {
        broken = broken;
        lawful = is-lawful;
        output = subst (λ (t : List ℕ). HasBeginning t before.console behind.console) console-due
            (console-begun (pieces_due r probes) broken.whole broken.rest broken.piece broken.count before behind broken.all broken.put);
        report =
            report-begun (pieces_due r probes) broken.whole broken.rest broken.piece broken.count before behind broken.all broken.put;
      }
