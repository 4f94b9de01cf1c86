-- What is put at each moment of the script: the console gets the output of the committed trace and nothing else, and the report the rows
-- and the summary and nothing else.
use Rattle.std.proofs.Common.{◌≡◌, ℕ, ◌+◌, List, [], ◌∷◌, ◌++◌, take, drop, length, refl, ap, sym, subst, ◌∙◌}
use Rattle.std.proofs.Common.{append_assoc, append-nil, arith}
use Rattle.std.proofs.lemmas.List.{take_all, take-append-drop}
use Rattle.std.specs.Prelude.{Option, None, codes}
use Rattle.sn_base.specs.Image.{ImageData}
use Rattle.sn_base.specs.declared.config.Config.{Config}
use Rattle.sn_base.specs.declared.event.Event.{Event}
use Rattle.sn_model.specs.Machine.{State, start_of}
use Rattle.sn_model.specs.Step.{step_of}
use Rattle.consistent_cuts.specs.Headline.{state_of_run}
use Rattle.rv_core.specs.Execution.{IsExecution}
use Rattle.consistent_cuts.proofs.Run.{reached_consistent}
use Rattle.sn_probe.specs.Probes.{Meter}
use Rattle.sink_pieces.specs.Pieces.{Piece, ends, after, console_text, report_text, console_piece}
use Rattle.sink_pieces.proofs.PieceLaws.{console_text-append, report_text-append}
use Rattle.sink_pieces.proofs.Begun.{report_text-piece}
use Rattle.script_replay.specs.declared.job.Showing.{Showing}
use Rattle.script_replay.specs.declared.job.ReportKind.TheVariants.{Trace, Summary}
use Rattle.script_replay.specs.Pieces.{tally_pieces, summary_pieces, turn_pieces, turns_from, turns_of}
use Rattle.script_replay.specs.Pieces.{pieces_of as replay_pieces}
use Rattle.script_replay.specs.Probed.{told_all, tallies_due}
use Rattle.script_replay.specs.Played.{MayBegin}
use Rattle.script_replay.specs.Shown.{committed_by, output_of, IsShown}
use Rattle.script_replay.proofs.Lawful.{run-lawful}
use Rattle.script_replay.proofs.Shown.{shown-all}
use Rattle.committed_accesses.specs.Rows.{AccessRow, access_rows_of}
use Rattle.committed_accesses.specs.Lines.{row_pieces, access_pieces}
use Rattle.script_replay.specs.declared.job.Replay.{Replay}
use Rattle.accesses_replay.specs.Pieces.{end_pieces, quietly, pieces_of}
use Rattle.accesses_replay.specs.Shown.{end_due, pieces_due, IsMoment, IsLawful}

-- the pieces of the first events come before those of the others

turns-split : (image : ImageData) (config : Config) (showing : Showing) (done : ℕ) (s : State) (first others : List Event) →
    (rest : List Piece) × (turns_from image config showing done s first ++ rest ≡ turns_from image config showing done s (first ++ others))
unfolding turns_from
turns-split image config showing done s [] others = (turns_from image config showing done s others, refl)
turns-split image config showing done s (event ∷ first) others =
    let more = turns-split image config showing (done + 1) (step_of image config s event).state first others in (
      more.0,
      append_assoc (turn_pieces image config showing (done + 1) s event)
          (turns_from image config showing (done + 1) (step_of image config s event).state first) more.0
          ∙ ap (λ t. turn_pieces image config showing (done + 1) s event ++ t) more.1,
    )

pub turns-first : (image : ImageData) (config : Config) (showing : Showing) (events : List Event) (i : ℕ) →
    (rest : List Piece) × (turns_of image config showing (take i events) ++ rest ≡ turns_of image config showing events)
unfolding turns_of
turns-first image config showing events i =
    let split = turns-split image config showing 0 (start_of image config.nodes) (take i events) (drop i events) in
    (split.0, split.1 ∙ ap (turns_from image config showing 0 (start_of image config.nodes)) (take-append-drop i events))

-- the rows and the summary put nothing to the console

quiet-rows : (rows : List AccessRow) → console_text (row_pieces rows) ≡ []
unfolding row_pieces
quiet-rows [] = refl
quiet-rows (row ∷ rows) = quiet-rows rows

quiet-tallies : (before : List ℕ) (probe : ℕ) (tallies : List (List ℕ)) → console_text (tally_pieces before probe tallies) ≡ []
unfolding tally_pieces
quiet-tallies before probe [] = refl
quiet-tallies before probe (tally ∷ tallies) = quiet-tallies before (probe + 1) tallies

quiet-summary : (image : ImageData) (config : Config) (watch : Option ℕ) (tallies : List (List ℕ)) (events : ℕ) (s : State) →
    console_text (summary_pieces (codes "# ") image config watch tallies events s) ≡ []
quiet-summary image config watch tallies events s = quiet-tallies (codes "# ") 0 tallies

quiet-end : (image : ImageData) (config : Config) (watch : Option ℕ) (tallies : List (List ℕ)) (events : ℕ) (s : State) →
    console_text (end_pieces image config watch tallies events s) ≡ []
unfolding end_pieces
quiet-end image config watch tallies events s =
    let rows = access_rows_of image config.nodes s.committed in
    console_text-append (access_pieces rows) (summary_pieces (codes "# ") image config watch tallies events s)
    ∙ ap (λ t. t ++ console_text (summary_pieces (codes "# ") image config watch tallies events s)) (quiet-rows rows)
    ∙ quiet-summary image config watch tallies events s

-- the events put nothing to the report

silent-turn : (image : ImageData) (config : Config) (watch : Option ℕ) (place : ℕ) (s : State) (event : Event) →
    report_text (turn_pieces image config (quietly watch) place s event) ≡ []
unfolding turn_pieces
silent-turn image config watch place s event =
    let fresh : List ℕ = drop (length s.released) (step_of image config s event).state.released in
    report_text-append (console_piece fresh) [] ∙ append-nil (report_text (console_piece fresh)) ∙ report_text-piece fresh

silent-turns : (image : ImageData) (config : Config) (watch : Option ℕ) (done : ℕ) (s : State) (events : List Event) →
    report_text (turns_from image config (quietly watch) done s events) ≡ []
unfolding turns_from
silent-turns image config watch done s [] = refl
silent-turns image config watch done s (event ∷ events) =
    let next : State = (step_of image config s event).state in
    report_text-append (turn_pieces image config (quietly watch) (done + 1) s event)
    (turns_from image config (quietly watch) (done + 1) next events)
    ∙ ap (λ t. t ++ report_text (turns_from image config (quietly watch) (done + 1) next events))
    (silent-turn image config watch (done + 1) s event)
    ∙ silent-turns image config watch (done + 1) next events

silent : (image : ImageData) (config : Config) (watch : Option ℕ) (events : List Event) →
    report_text (turns_of image config (quietly watch) events) ≡ []
unfolding turns_of
silent image config watch events = silent-turns image config watch 0 (start_of image config.nodes) events

module _ (r : Replay) (may : MayBegin r) where
  -- the trace isn't asked for
  no-trace : Summary ≡ Trace → ⊥
  no-trace is = cc

  abbrev turns-due : List Piece
  turns-due = turns_of r.program r.config (quietly r.showing.watch) r.script

  -- a replay of the script alone puts the same before its end
  shown : IsShown r.program r.config (quietly r.showing.watch) [] r.script (ends None None)
      (after (ends None None) (replay_pieces r.program r.config (quietly r.showing.watch) [] r.script))
  shown =
      shown-all r.program r.config (quietly r.showing.watch) [] r.script (ends None None) _ may.run may.few (λ is. absurd (no-trace is)) refl

  console-turns : (i : ℕ) →
      console_text (turns_of r.program r.config (quietly r.showing.watch) (take i r.script)) ≡ output_of r.program r.config (take i r.script)
  console-turns i = (shown.in_step i).output

  console-script : console_text turns-due ≡ output_of r.program r.config r.script
  console-script =
      subst (λ (t : List Event). console_text (turns_of r.program r.config (quietly r.showing.watch) t) ≡ output_of r.program r.config t)
      (take_all (length r.script) r.script (omega arith)) (console-turns (length r.script))

  pub executed : IsExecution r.program r.config.nodes (committed_by r.program r.config r.script)
  executed = (reached_consistent r.program r.config r.script may.run).execution

  module _ (probes : List Meter) where
    pub console-due : console_text (pieces_due r probes) ≡ output_of r.program r.config r.script
    unfolding pieces_of
    console-due =
        console_text-append turns-due (end_due r probes)
        ∙ ap (λ t. console_text turns-due ++ t)
        (quiet-end r.program r.config r.showing.watch (tallies_due r probes) (length r.script) (state_of_run r.program r.config r.script))
        ∙ append-nil (console_text turns-due) ∙ console-script

    pub report-due : report_text (pieces_due r probes) ≡ report_text (end_due r probes)
    unfolding pieces_of
    report-due =
        report_text-append turns-due (end_due r probes)
        ∙ ap (λ t. t ++ report_text (end_due r probes)) (silent r.program r.config r.showing.watch r.script)

    moment : (i : ℕ) → IsMoment r probes (take i r.script)
    unfolding pieces_of
    moment i =
        let split = turns-first r.program r.config (quietly r.showing.watch) r.script i in
        record {
          consistent = run-lawful r.program r.config r.script may.run i;
          others = split.0 ++ end_due r probes;
          order =
              sym (append_assoc (turns_of r.program r.config (quietly r.showing.watch) (take i r.script)) split.0 (end_due r probes))
              ∙ ap (λ t. t ++ end_due r probes) split.1;
          output = console-turns i;
        }

    pub is-lawful : IsLawful r probes
    is-lawful = moment
