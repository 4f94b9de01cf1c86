-- Over a whole run the console's text is what is released, and that is the output of the committed trace; and where the trace is
-- asked for, the report's text is that trace and the summary.
use Rattle.std.proofs.Common.{◌≡◌, ℕ, ◌+◌, List, [], ◌∷◌, ◌++◌, take, drop, length, refl, ap, sym, subst, ◌∙◌, append_assoc, append-nil}
use Rattle.std.proofs.Common.{◌≤◌, All, arith}
use Rattle.std.proofs.lemmas.List.{drop_at, take-append-drop}
use Rattle.std.specs.Prelude.{Option, codes}
use Rattle.sn_base.specs.Image.{ImageData}
use Rattle.sn_base.specs.declared.config.Config.{Config}
use Rattle.sn_base.specs.declared.event.Event.{Event}
use Rattle.rv_core.specs.declared.step.Record.{Record}
use Rattle.sn_model.specs.Machine.{State, start_of}
use Rattle.sn_model.specs.Step.{step_of, state_after}
use Rattle.sn_model.specs.Trace.{TraceEntry, trace_after_event}
use Rattle.sn_io.specs.Outside.{followed_by}
use Rattle.sn_text.specs.Text.{trace_line}
use Rattle.sn_text.specs.Items.{most_items}
use Rattle.sn_text.specs.Written.{HasValues, trace_text}
use Rattle.due_events.specs.Headline.{IsRun, IsStepOfRun, state_of_run}
use Rattle.due_events.specs.RunInvariant.{Holds}
use Rattle.due_events.specs.ConsistentCutsRuns.{AllFit}
use Rattle.due_events.proofs.Run.{step_holds, holds_next, start_holds, reached_consistent}
use Rattle.sink_pieces.specs.Pieces.{Piece, console_text, report_text, Ends, after, Breaks, HasBeginning, console_piece}
use Rattle.sink_pieces.proofs.PieceLaws.{console_text-append, report_text-append}
use Rattle.sink_pieces.proofs.Begun.{console_text-piece, report_text-piece, console-after, report-after, console-begun, report-begun}
use Rattle.script_replay.specs.declared.job.Showing.{Showing}
use Rattle.script_replay.specs.declared.job.ReportKind.{ReportKind}
use Rattle.script_replay.specs.declared.job.ReportKind.TheVariants.{Events, Trace, Summary}
use Rattle.script_replay.specs.Pieces.{group_of, group_pieces, trace_pieces, tally_pieces, summary_pieces, last_pieces, end_pieces}
use Rattle.script_replay.specs.Pieces.{turn_pieces, turns_from, turns_of, pieces_from, pieces_of}
use Rattle.script_replay.specs.Shown.{committed_by, output_of, IsInStep, IsTrace, IsShown, IsShownInPart}
use Rattle.script_replay.proofs.Groups.{some-nodes, few-nodes}
use Rattle.script_replay.proofs.Lawful.{run-first, run-lawful}
use Rattle.script_replay.proofs.Releases.{released-grows}
use Rattle.script_replay.proofs.ReadBack.{trace-read}

-- groups, traces and the end put nothing to the console

console_text-group : (kind : ReportKind) (text : List ℕ) → console_text (group_pieces kind text) ≡ []
console_text-group Events text = refl
console_text-group Trace text = refl
console_text-group Summary text = refl

console_text-trace : (records : List Record) → console_text (trace_pieces records) ≡ []
unfolding trace_pieces
console_text-trace [] = refl
console_text-trace (taken ∷ records) = console_text-trace records

console_text-tallies : (before : List ℕ) (probe : ℕ) (tallies : List (List ℕ)) → console_text (tally_pieces before probe tallies) ≡ []
unfolding tally_pieces
console_text-tallies before probe [] = refl
console_text-tallies before probe (tally ∷ tallies) = console_text-tallies before (probe + 1) tallies

console_text-last : (kind : ReportKind) (image : ImageData) (config : Config) (watch : Option ℕ) (tallies : List (List ℕ)) (done : ℕ)
    (s : State) → console_text (last_pieces kind image config watch tallies done s) ≡ []
console_text-last Events image config watch tallies done s = console_text-tallies [] 0 tallies
console_text-last Trace image config watch tallies done s =
    console_text-append (trace_pieces s.committed) (summary_pieces (codes "# ") image config watch tallies done s)
    ∙ ap (λ t. t ++ console_text (tally_pieces (codes "# ") 0 tallies)) (console_text-trace s.committed)
    ∙ console_text-tallies (codes "# ") 0 tallies
console_text-last Summary image config watch tallies done s = console_text-tallies [] 0 tallies

-- what an event puts to the console is what it releases
pub console_text-turn : (image : ImageData) (config : Config) (showing : Showing) (place : ℕ) (s : State) (event : Event) →
    console_text (turn_pieces image config showing place s event) ≡ drop (length s.released) (step_of image config s event).state.released
unfolding turn_pieces
console_text-turn image config showing place s event =
    let fresh : List ℕ = drop (length s.released) (step_of image config s event).state.released in
    let text : List ℕ = group_of image config showing.watch place event (step_of image config s event) in
    console_text-append (console_piece fresh) (group_pieces showing.report text)
    ∙ ap (λ t. console_text (console_piece fresh) ++ t) (console_text-group showing.report text)
    ∙ append-nil (console_text (console_piece fresh)) ∙ console_text-piece fresh

released-turn : (image : ImageData) (config : Config) (showing : Showing) (place : ℕ) (s : State) (event : Event) →
    IsStepOfRun image config s event (step_of image config s event) →
    (step_of image config s event).state.released ≡ s.released ++ console_text (turn_pieces image config showing place s event)
released-turn image config showing place s event says =
    let more = released-grows image config s event (step_of image config s event) says in
    more.1 ∙ ap (λ t. s.released ++ t)
    (sym (console_text-turn image config showing place s event ∙ ap (drop (length s.released)) more.1
    ∙ drop_at s.released more.0 (length s.released) refl))

-- and so do events one after another, from a state of a run
pub released-turns : (image : ImageData) (config : Config) (showing : Showing) (done : ℕ) (s : State) (trace : List TraceEntry)
    (events : List Event) → AllFit config.nodes events → Holds image config.nodes s trace →
    (state_after image config s events).released ≡ s.released ++ console_text (turns_from image config showing done s events)
unfolding turns_from
released-turns image config showing done s trace [] fit holds = sym (append-nil s.released)
released-turns image config showing done s trace (event ∷ events) fit holds =
    let next : State = (step_of image config s event).state in
    released-turns image config showing (done + 1) next (trace_after_event image s event (step_of image config s event).answer trace) events fit.1
    (step_holds image config config.nodes s trace event holds fit.0)
    ∙ ap (λ t. t ++ console_text (turns_from image config showing (done + 1) next events))
    (released-turn image config showing (done + 1) s event (holds_next image config s trace event holds fit.0))
    ∙ append_assoc s.released (console_text (turn_pieces image config showing (done + 1) s event))
    (console_text (turns_from image config showing (done + 1) next events))
    ∙ ap (λ t. s.released ++ t)
    (sym (console_text-append (turn_pieces image config showing (done + 1) s event)
    (turns_from image config showing (done + 1) next events)))

-- the pieces of the first events come first

pub pieces_from-split : (image : ImageData) (config : Config) (showing : Showing) (tallies : List (List ℕ)) (done : ℕ) (s : State)
    (first others : List Event) →
    (rest : List Piece) × (turns_from image config showing done s first
    ++ rest ≡ pieces_from image config showing tallies done s (first ++ others))
unfolding turns_from pieces_from
pieces_from-split image config showing tallies done s [] others = (pieces_from image config showing tallies done s others, refl)
pieces_from-split image config showing tallies done s (event ∷ first) others =
    let more = pieces_from-split image config showing tallies (done + 1) (step_of image config s event).state first others in (
      more.0,
      append_assoc (turn_pieces image config showing (done + 1) s event)
          (turns_from image config showing (done + 1) (step_of image config s event).state first) more.0
          ∙ ap (λ t. turn_pieces image config showing (done + 1) s event ++ t) more.1,
    )

pieces_of-split : (image : ImageData) (config : Config) (showing : Showing) (tallies : List (List ℕ)) (events : List Event) (i : ℕ) →
    (rest : List Piece) × (turns_of image config showing (take i events) ++ rest ≡ pieces_of image config showing tallies events)
unfolding turns_of pieces_of
pieces_of-split image config showing tallies events i =
    let split = pieces_from-split image config showing tallies 0 (start_of image config.nodes) (take i events) (drop i events) in
    (split.0, split.1 ∙ ap (pieces_from image config showing tallies 0 (start_of image config.nodes)) (take-append-drop i events))

-- what is put at the end is for the report
pub console_text-turns : (image : ImageData) (config : Config) (showing : Showing) (tallies : List (List ℕ)) (done : ℕ) (s : State)
    (events : List Event) →
    console_text (pieces_from image config showing tallies done s events) ≡ console_text (turns_from image config showing done s events)
unfolding turns_from pieces_from end_pieces
console_text-turns image config showing tallies done s [] = console_text-last showing.report image config showing.watch tallies done s
console_text-turns image config showing tallies done s (event ∷ events) =
    let next : State = (step_of image config s event).state in
    console_text-append (turn_pieces image config showing (done + 1) s event)
    (pieces_from image config showing tallies (done + 1) next events)
    ∙ ap (λ t. console_text (turn_pieces image config showing (done + 1) s event) ++ t)
    (console_text-turns image config showing tallies (done + 1) next events)
    ∙ sym (console_text-append (turn_pieces image config showing (done + 1) s event)
    (turns_from image config showing (done + 1) next events))

-- at each moment

module _ (image : ImageData) (config : Config) (showing : Showing) (events : List Event) (run : IsRun config events) where
  console-output : console_text (turns_of image config showing events) ≡ output_of image config events
  unfolding turns_of
  console-output =
      sym (released-turns image config showing 0 (start_of image config.nodes) [] events run.events_fit
      (start_holds image config.nodes (some-nodes config run.fits) (few-nodes config run.fits)))
      ∙ (reached_consistent image config events run).output

  console-whole : (tallies : List (List ℕ)) → console_text (pieces_of image config showing tallies events) ≡ output_of image config events
  unfolding turns_of pieces_of
  console-whole tallies = console_text-turns image config showing tallies 0 (start_of image config.nodes) events ∙ console-output

in-step : (image : ImageData) (config : Config) (showing : Showing) (tallies : List (List ℕ)) (events : List Event) → IsRun config events →
    IsInStep image config showing tallies events
in-step image config showing tallies events run i =
    let split = pieces_of-split image config showing tallies events i in
    record {
      others = split.0;
      order = split.1;
      output = console-output image config showing (take i events) (run-first config events i run);
    }

-- where the trace is asked for, the report's text is the trace and the summary

pub report_text-trace : (records : List Record) → report_text (trace_pieces records) ≡ trace_text records
unfolding trace_pieces
report_text-trace [] = refl
report_text-trace (taken ∷ records) = ap (λ t. trace_line taken ++ t) (report_text-trace records)

report_text-turn : (image : ImageData) (config : Config) (showing : Showing) (place : ℕ) (s : State) (event : Event) →
    showing.report ≡ Trace → report_text (turn_pieces image config showing place s event) ≡ []
unfolding turn_pieces
report_text-turn image config showing place s event is =
    let fresh : List ℕ = drop (length s.released) (step_of image config s event).state.released in
    let text : List ℕ = group_of image config showing.watch place event (step_of image config s event) in
    ap (λ t. report_text (console_piece fresh ++ group_pieces t text)) is
    ∙ report_text-append (console_piece fresh) [] ∙ append-nil (report_text (console_piece fresh)) ∙ report_text-piece fresh

report_text-end : (image : ImageData) (config : Config) (showing : Showing) (tallies : List (List ℕ)) (done : ℕ) (s : State) →
    showing.report ≡ Trace →
    report_text (end_pieces image config showing tallies done s) ≡ trace_text s.committed
    ++ report_text (summary_pieces (codes "# ") image config showing.watch tallies done s)
unfolding end_pieces
report_text-end image config showing tallies done s is =
    let summary : List Piece = summary_pieces (codes "# ") image config showing.watch tallies done s in
    ap (λ t. report_text (last_pieces t image config showing.watch tallies done s)) is
    ∙ report_text-append (trace_pieces s.committed) summary ∙ ap (λ t. t ++ report_text summary) (report_text-trace s.committed)

report_text-from : (image : ImageData) (config : Config) (showing : Showing) (tallies : List (List ℕ)) (done : ℕ) (s : State)
    (events : List Event) → showing.report ≡ Trace → report_text (pieces_from image config showing tallies done s events)
    ≡ trace_text (state_after image config s events).committed
    ++ report_text (summary_pieces (codes "# ") image config showing.watch tallies (done + length events)
    (state_after image config s events))
unfolding pieces_from
report_text-from image config showing tallies done s [] is =
    let same : done ≡ done + 0 = omega arith in
    report_text-end image config showing tallies done s is
    ∙ ap (λ n. trace_text s.committed ++ report_text (summary_pieces (codes "# ") image config showing.watch tallies n s)) same
report_text-from image config showing tallies done s (event ∷ events) is =
    let next : State = (step_of image config s event).state in
    let same : done + 1 + length events ≡ done + length (event ∷ events) = omega arith in
    report_text-append (turn_pieces image config showing (done + 1) s event)
    (pieces_from image config showing tallies (done + 1) next events)
    ∙ ap (λ t. t ++ report_text (pieces_from image config showing tallies (done + 1) next events))
    (report_text-turn image config showing (done + 1) s event is)
    ∙ report_text-from image config showing tallies (done + 1) next events is
    ∙ ap (λ n. trace_text (state_after image config next events).committed
    ++ report_text (summary_pieces (codes "# ") image config showing.watch tallies n (state_after image config next events))) same

module _ (image : ImageData) (config : Config) (showing : Showing) (tallies : List (List ℕ)) (events : List Event) (before behind : Ends) (run : IsRun config events) where
  report-trace : length events ≤ most_items → All HasValues (committed_by image config events) →
      behind ≡ after before (pieces_of image config showing tallies events) →
      showing.report ≡ Trace → IsTrace image config showing.watch tallies events before.report behind.report
  unfolding pieces_of
  report-trace few values put is =
      let same : 0 + length events ≡ length events = omega arith in
      record {
        execution = (reached_consistent image config events run).execution;
        written = report-after before behind (pieces_of image config showing tallies events) put
            ∙ ap (followed_by before.report) (report_text-from image config showing tallies 0 (start_of image config.nodes) events is
            ∙ ap (λ n. trace_text (committed_by image config events)
            ++ report_text (summary_pieces (codes "# ") image config showing.watch tallies n (state_of_run image config events))) same);
        read =
            trace-read image config events run few values showing.watch tallies (length events) (state_of_run image config events);
      }

  pub shown-all : length events ≤ most_items → (showing.report ≡ Trace → All HasValues (committed_by image config events)) →
      behind ≡ after before (pieces_of image config showing tallies events) → IsShown image config showing tallies events before behind
  shown-all few values put = record {
    lawful = run-lawful image config events run;
    in_step = in-step image config showing tallies events run;
    output =
        console-after before behind (pieces_of image config showing tallies events) put
        ∙ ap (followed_by before.console) (console-whole image config showing events run tallies);
    traced = λ is. report-trace few (values is) put is;
  }

  pub shown-part : Breaks (pieces_of image config showing tallies events) before behind →
      IsShownInPart image config showing tallies events before behind
  shown-part broken = record {
    lawful = run-lawful image config events run;
    in_step = in-step image config showing tallies events run;
    output = subst (λ (t : List ℕ). HasBeginning t before.console behind.console) (console-whole image config showing events run tallies)
        (console-begun
        (pieces_of image config showing tallies events) broken.whole broken.rest broken.piece broken.count before behind broken.all
        broken.put);
    report =
        report-begun
        (pieces_of image config showing tallies events) broken.whole broken.rest broken.piece broken.count before behind broken.all
        broken.put;
  }
