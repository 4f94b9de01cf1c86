-- What a watched run has put, by what its turns left.
use Rattle.std.proofs.Common.{◌≡◌, ℕ, List, [], ◌∷◌, ◌++◌, length, map, refl, ap, sym, subst, ◌∙◌, append-nil}
use Rattle.std.specs.Prelude.{Option, Some, option_and_then}
use Rattle.sn_base.specs.Image.{ImageData}
use Rattle.sn_base.specs.declared.config.Config.{Config}
use Rattle.sn_base.specs.declared.event.Answer.{Answer}
use Rattle.sn_io.specs.Outside.{followed_by}
use Rattle.sn_model.specs.Machine.{State}
use Rattle.consistent_cuts.specs.Headline.{IsRun, IsConsistent, retirements}
use Rattle.consistent_cuts.proofs.Run.{reached_consistent}
use Rattle.sn_machine.specs.Machine.{MachineData, flat_of}
use Rattle.sn_probe.specs.Probes.{Meter, tallies_of}
use Rattle.sink_pieces.specs.Pieces.{Piece, Ends, after, Breaks, console_piece, console_text, HasBeginning}
use Rattle.sink_pieces.proofs.PieceLaws.{console_text-append}
use Rattle.sink_pieces.proofs.Begun.{console-after, console-begun, console_text-piece}
use Rattle.script_replay.specs.declared.job.ReportKind.TheVariants as replayed
use Rattle.script_replay.specs.Pieces.{summary_pieces, end_pieces, turns_from, pieces_from}
use Rattle.script_replay.specs.Played.{summary_pieces_of}
use Rattle.script_replay.proofs.Lawful.{run-lawful}
use Rattle.script_replay.proofs.Shown.{console_text-turns}
use Rattle.run_journals.specs.declared.entry.JournalEntry.{JournalEntry}
use Rattle.run_journals.specs.Journal.{Began, events_of, state_of}
use Rattle.node_run.specs.Finish.{Finish}
use Rattle.node_run.specs.Finishes.{IsRunOf, finish_by}
use Rattle.node_run.specs.Told.{told_all}
use Rattle.node_run.specs.declared.ending.Ending.{Ending}
use Rattle.node_run.specs.Endings.{ending_by, flat_after, ending_of}
use Rattle.node_run.specs.Pieces.{begins, tallies_by, summary_by}
use Rattle.node_run.specs.Shown.{IsJournal, KnowAll, output_by}
use Rattle.node_run.proofs.Replays.{told-replayed}
use Rattle.snap_board.specs.Snap.{SnapData}
use Rattle.monitor_run.specs.declared.job.Monitor.{Monitor}
use Rattle.monitor_run.specs.declared.marks.Mark.{Mark}
use Rattle.monitor_run.specs.declared.turns.Turns.{Turns}
use Rattle.monitor_run.specs.Reported.{pieces_now}
use Rattle.monitor_run.specs.Seen.{seen_pieces, published_by, IsInRounds, AreSeen, mark_of}
use Rattle.monitor_run.specs.Taken.{AreTaken}
use Rattle.monitor_run.specs.Shown.{MayBegin, run_of, watched_word, monitor_pieces, IsWatched, IsDone, IsBrokenOff}
use Rattle.monitor_run.specs.Stands.{HasLeft}
use Rattle.monitor_run.proofs.Published.{published-rises}
use Rattle.monitor_run.proofs.Seen.{seen-of}

-- of what the report has nothing goes to the console
seen-quiet : (marks : List Mark) → console_text (seen_pieces marks) ≡ []
unfolding seen_pieces
seen-quiet [] = refl
seen-quiet (mark ∷ marks) = seen-quiet marks

summary-quiet : (image : ImageData) (config : Config) (watch : Option ℕ) (tallies : List (List ℕ)) (done : ℕ) (s : State) →
    console_text (summary_pieces [] image config watch tallies done s) ≡ []
unfolding end_pieces turns_from pieces_from
summary-quiet image config watch tallies done s =
    console_text-turns image config (record { report = replayed.Summary; watch = watch }) tallies done s []

module _ (r : Monitor) (may : MayBegin r) (began : Began) (same : began ≡ begins (run_of r)) (watch : ℕ) (word : watch ≡ watched_word r.watch)
    (m : MachineData) (t : Turns) (marks : List Mark) (found : Finish) (left : HasLeft began watch m t marks found) where
  abbrev journal : List JournalEntry
  journal = t.journal.items

  abbrev answers : List Answer
  answers = t.answers.items

  abbrev b : Began
  b = begins (run_of r)

  by_run : IsRunOf b m journal answers
  by_run = subst (λ (x : Began). IsRunOf x m journal answers) same left.run

  its-journal : IsJournal (run_of r) journal
  its-journal = record { due = by_run.due; workers = by_run.workers; fit = by_run.fit may.ruled; few = by_run.few }

  its-run : IsRun r.config (events_of journal)
  its-run = record { fits = may.fits; events_fit = its-journal.fit }

  consistent : IsConsistent r.program r.config.nodes (state_of b journal) (retirements r.program r.config (events_of journal))
  unfolding state_of
  consistent = reached_consistent r.program r.config (events_of journal) its-run

  -- its end
  flat-is : flat_of m ≡ flat_after b journal
  flat-is =
      ap (λ (i : ImageData). flat_of (record m { image = i })) by_run.image
      ∙ ap (λ (c : Config). flat_of (record m { image = r.program; config = c })) by_run.config
      ∙ ap (λ (s : State). flat_of (record m { image = r.program; config = r.config; state = s })) by_run.state

  its-ending : (ending : Ending) → ending_by m.config.nodes (flat_of m) found ≡ Some ending → ending_of b journal ≡ Some ending
  its-ending ending is =
      ap (λ (o : Option Finish). option_and_then (ending_by r.config.nodes (flat_after b journal)) o)
      (ap (λ (x : Began). finish_by x journal) (sym same) ∙ left.finished)
      ∙ ap (λ f. ending_by r.config.nodes f found) (sym flat-is)
      ∙ ap (λ (c : Config). ending_by c.nodes (flat_of m) found) (sym by_run.config) ∙ is

  -- what was seen
  taken : AreTaken marks (map mark_of (published_by b (watched_word r.watch) journal))
  taken =
      subst (λ (w : ℕ). AreTaken marks (map mark_of (published_by b w journal))) word
      (subst (λ (x : Began). AreTaken marks (map mark_of (published_by x watch journal))) same left.seen_are)

  seen : (seen : List SnapData) × (map mark_of seen ≡ marks) × AreSeen seen (published_by b (watched_word r.watch) journal)
  seen = seen-of marks (published_by b (watched_word r.watch) journal) (published-rises b (watched_word r.watch) journal) taken

  watched : IsWatched r journal seen.0
  watched = record {
    journal_is = its-journal;
    rounds = subst (λ (x : Began). IsInRounds x.config.nodes journal) same left.rounds;
    lawful = run-lawful r.program r.config (events_of journal) its-run;
    seen_are = seen.2;
  }

  -- what is put
  module _ (probes told : List Meter) (are : told ≡ told_all journal answers probes) where
    knows : KnowAll (run_of r) journal probes told
    knows = are ∙ told-replayed (run_of r) journal answers probes by_run.answers_are

    summary-is : summary_pieces_of [] m r.watch (tallies_of told) ≡ summary_by [] (run_of r) probes journal
    summary-is =
        ap (λ (i : ImageData). summary_pieces_of [] (record m { image = i }) r.watch (tallies_of told)) by_run.image
        ∙ ap (λ (c : Config). summary_pieces_of [] (record m { image = r.program; config = c }) r.watch (tallies_of told)) by_run.config
        ∙ ap (λ (s : State). summary_pieces_of []
        (record m { image = r.program; config = r.config; state = s }) r.watch (tallies_of told)) by_run.state
        ∙ ap (λ (n : ℕ). summary_pieces [] r.program r.config r.watch (tallies_of told) n (state_of b journal)) by_run.applied
        ∙ ap (λ (l : List Meter). summary_pieces [] r.program r.config r.watch (tallies_of l) (length journal) (state_of b journal)) knows

    pieces-are : pieces_now m marks r.watch (tallies_of told) ≡ monitor_pieces r probes journal seen.0
    pieces-are =
        ap (λ (s : State). console_piece s.released ++ (seen_pieces marks ++ summary_pieces_of [] m r.watch (tallies_of told))) by_run.state
        ∙ ap (λ (l : List Piece). console_piece (state_of b journal).released ++ (seen_pieces marks ++ l)) summary-is
        ∙ ap (λ (l : List Mark). console_piece (state_of b journal).released ++ (seen_pieces l ++ summary_by [] (run_of r) probes journal))
        (sym seen.1)

    output-is : console_text (monitor_pieces r probes journal seen.0) ≡ output_by (run_of r) journal
    output-is =
        console_text-append (console_piece (state_of b journal).released)
        (seen_pieces (map mark_of seen.0) ++ summary_by [] (run_of r) probes journal)
        ∙ ap (λ (l : List ℕ). l ++ console_text (seen_pieces (map mark_of seen.0) ++ summary_by [] (run_of r) probes journal))
        (console_text-piece (state_of b journal).released)
        ∙ ap (λ (l : List ℕ). (state_of b journal).released ++ l)
        (console_text-append (seen_pieces (map mark_of seen.0)) (summary_by [] (run_of r) probes journal)
        ∙ ap (λ (l : List ℕ). l ++ console_text (summary_by [] (run_of r) probes journal)) (seen-quiet (map mark_of seen.0))
        ∙ summary-quiet r.program r.config r.watch (tallies_by (run_of r) probes journal) (length journal) (state_of b journal))
        ∙ append-nil (state_of b journal).released ∙ consistent.output

    module _ (ending : Ending) (is : ending_by m.config.nodes (flat_of m) found ≡ Some ending) (before behind : Ends) where
      pub run-shown : (listed : List Mark) → listed ≡ marks → behind ≡ after before (pieces_now m listed r.watch (tallies_of told)) →
          IsDone r probes ending before behind told
      run-shown listed same_marks put =
          let all : behind ≡ after before (monitor_pieces r probes journal seen.0) =
          put ∙ ap (λ (l : List Mark). after before (pieces_now m l r.watch (tallies_of told))) same_marks ∙ ap (after before) pieces-are in (
            journal,
            seen.0,
            record {
              watched = watched;
              ended = its-ending ending is;
              put = all;
              output =
                  console-after before behind (monitor_pieces r probes journal seen.0) all
                  ∙ ap (followed_by before.console) output-is;
            },
            knows,
          )

      pub run-broken : (listed : List Mark) → listed ≡ marks → Breaks (pieces_now m listed r.watch (tallies_of told)) before behind →
          IsBrokenOff r probes before behind told
      run-broken listed same_marks broken =
          let part : Breaks (monitor_pieces r probes journal seen.0) before behind =
          subst (λ (l : List Piece). Breaks l before behind)
          (ap (λ (l : List Mark). pieces_now m l r.watch (tallies_of told)) same_marks ∙ pieces-are) broken in (
            journal,
            seen.0,
            ending,
            record {
              watched = watched;
              ended = its-ending ending is;
              broken = part;
              output = subst (λ (l : List ℕ). HasBeginning l before.console behind.console) output-is
                  (console-begun (monitor_pieces r probes journal seen.0) part.whole part.rest part.piece part.count before behind part.all part.put);
            },
            knows,
          )
