-- What is put at each moment of the script, and that the console gets the output of the committed trace and nothing else.
use Rattle.std.proofs.Common.{◌≡◌, ℕ, ◌+◌, List, [], ◌∷◌, ◌++◌, take, drop, length, refl, ap, sym, subst, ◌∙◌}
use Rattle.std.proofs.Common.{append_assoc, append-nil, arith}
use Rattle.std.proofs.lemmas.List.{take_all, take-append-drop}
use Rattle.std.specs.Prelude.{Option, None}
use Rattle.sn_base.specs.Image.{ImageData}
use Rattle.sn_base.specs.declared.config.Config.{Config}
use Rattle.sn_base.specs.declared.event.Event.{Event}
use Rattle.sn_model.specs.Machine.{State, start_of}
use Rattle.sn_model.specs.Step.{step_of}
use Rattle.sn_probe.specs.Probes.{Meter, tallies_of}
use Rattle.sink_pieces.specs.Pieces.{Piece, ends, after, console_text}
use Rattle.sink_pieces.proofs.PieceLaws.{console_text-append}
use Rattle.script_replay.specs.declared.job.Showing.{Showing}
use Rattle.script_replay.specs.declared.job.ReportKind.TheVariants.{Trace, Summary}
use Rattle.script_replay.specs.Pieces.{summary_pieces, end_pieces, turn_pieces, turns_from, turns_of, pieces_from, pieces_of}
use Rattle.script_replay.specs.Shown.{output_of, IsShown}
use Rattle.script_replay.proofs.Lawful.{run-lawful}
use Rattle.script_replay.proofs.Shown.{console_text-turns, shown-all}
use Rattle.rolling_recovery.specs.declared.controls.Control.{Control}
use Rattle.rolled_replay.specs.declared.job.Roll.{Roll}
use Rattle.rolled_replay.specs.declared.stage.Stage.{Stage}
use Rattle.rolled_replay.specs.Stages.{next_stage, stage_after, machine_of}
use Rattle.rolled_replay.specs.Pieces.{control_pieces, recovery_pieces, first_stage, quietly, rolled_pieces}
use Rattle.rolled_replay.specs.Rolled.{MayRoll, told_script, pieces_due, IsMoment, IsLawful}

-- the pieces of the first events come before those of the others

turns-split : (image : ImageData) (config : Config) (showing : Showing) (done : ℕ) (s : State) (first others : List Event) →
    (rest : List Piece) × (turns_from image config showing done s first ++ rest ≡ turns_from image config showing done s (first ++ others))
unfolding turns_from
turns-split image config showing done s [] others = (turns_from image config showing done s others, refl)
turns-split image config showing done s (event ∷ first) others =
    let more = turns-split image config showing (done + 1) (step_of image config s event).state first others in (
      more.0,
      append_assoc (turn_pieces image config showing (done + 1) s event)
          (turns_from image config showing (done + 1) (step_of image config s event).state first) more.0
          ∙ ap (λ t. turn_pieces image config showing (done + 1) s event ++ t) more.1,
    )

pub turns-first : (image : ImageData) (config : Config) (showing : Showing) (events : List Event) (i : ℕ) →
    (rest : List Piece) × (turns_of image config showing (take i events) ++ rest ≡ turns_of image config showing events)
unfolding turns_of
turns-first image config showing events i =
    let split = turns-split image config showing 0 (start_of image config.nodes) (take i events) (drop i events) in
    (split.0, split.1 ∙ ap (turns_from image config showing 0 (start_of image config.nodes)) (take-append-drop i events))

-- the lines of controls and the summary put nothing to the console

quiet-lines : (done : ℕ) (stage : Stage) (calls : List Control) → console_text (control_pieces done stage calls) ≡ []
unfolding control_pieces
quiet-lines done stage [] = refl
quiet-lines done stage (call ∷ calls) = quiet-lines (done + 1) (next_stage stage call) calls

quiet-summary : (image : ImageData) (config : Config) (watch : Option ℕ) (tallies : List (List ℕ)) (events : ℕ) (s : State) →
    console_text (summary_pieces [] image config watch tallies events s) ≡ []
unfolding turns_from pieces_from end_pieces
quiet-summary image config watch tallies events s = console_text-turns image config (quietly watch) tallies events s []

quiet-recovery : (stage : Stage) (calls : List Control) (watch : Option ℕ) (tallies : List (List ℕ)) (events : ℕ) →
    console_text (recovery_pieces stage calls watch tallies events) ≡ []
quiet-recovery stage calls watch tallies events =
    let m = machine_of (stage_after stage calls) in
    console_text-append (control_pieces 0 stage calls) (summary_pieces [] m.image m.config watch tallies events m.state)
    ∙ ap (λ t. t ++ console_text (summary_pieces [] m.image m.config watch tallies events m.state)) (quiet-lines 0 stage calls)
    ∙ quiet-summary m.image m.config watch tallies events m.state

module _ (r : Roll) (may : MayRoll r) where
  -- the trace isn't asked for
  no-trace : Summary ≡ Trace → ⊥
  no-trace is = cc

  -- a replay of the script alone puts the same before its end
  shown : IsShown r.program r.config (quietly r.watch) [] r.script (ends None None)
      (after (ends None None) (pieces_of r.program r.config (quietly r.watch) [] r.script))
  shown = shown-all r.program r.config (quietly r.watch) [] r.script (ends None None) _ may.run may.few (λ is. absurd (no-trace is)) refl

  console-turns : (i : ℕ) →
      console_text (turns_of r.program r.config (quietly r.watch) (take i r.script)) ≡ output_of r.program r.config (take i r.script)
  console-turns i = (shown.in_step i).output

  console-script : console_text (turns_of r.program r.config (quietly r.watch) r.script) ≡ output_of r.program r.config r.script
  console-script =
      subst (λ (t : List Event). console_text (turns_of r.program r.config (quietly r.watch) t) ≡ output_of r.program r.config t)
      (take_all (length r.script) r.script (omega arith)) (console-turns (length r.script))

  module _ (probes : List Meter) where
    abbrev rest-due : List Piece
    rest-due = recovery_pieces (first_stage r.program r.config r.script) r.controls r.watch (tallies_of (told_script r probes)) (length r.script)

    pub console-due : console_text (pieces_due r probes) ≡ output_of r.program r.config r.script
    unfolding rolled_pieces
    console-due =
        console_text-append (turns_of r.program r.config (quietly r.watch) r.script) rest-due
        ∙ ap (λ t. console_text (turns_of r.program r.config (quietly r.watch) r.script) ++ t)
        (quiet-recovery (first_stage r.program r.config r.script) r.controls r.watch (tallies_of (told_script r probes)) (length r.script))
        ∙ append-nil (console_text (turns_of r.program r.config (quietly r.watch) r.script)) ∙ console-script

    moment : (i : ℕ) → IsMoment r probes (take i r.script)
    unfolding rolled_pieces
    moment i =
        let split = turns-first r.program r.config (quietly r.watch) r.script i in
        record {
          consistent = run-lawful r.program r.config r.script may.run i;
          others = split.0 ++ rest-due;
          order = sym (append_assoc (turns_of r.program r.config (quietly r.watch) (take i r.script)) split.0 rest-due)
              ∙ ap (λ t. t ++ rest-due) split.1;
          output = console-turns i;
        }

    pub is-lawful : IsLawful r probes
    is-lawful = moment
