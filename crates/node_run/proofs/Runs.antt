-- What a run has put, by what its workers left.
use Rattle.std.proofs.Common.{◌≡◌, ℕ, List, [], ◌∷◌, ◌++◌, length, All, arith, refl, ap, sym, subst, ◌∙◌, inl, inr}
use Rattle.std.proofs.lemmas.List.{length-map}
use Rattle.std.specs.Prelude.{◌≤◌, Option, Some, None, Ok, codes, option_and_then}
use Rattle.sn_base.specs.Image.{ImageData}
use Rattle.sn_base.specs.declared.config.Config.{Config}
use Rattle.sn_base.specs.declared.event.Answer.{Answer}
use Rattle.rv_core.specs.declared.state.CoreState.{CoreState}
use Rattle.rv_core.specs.Flat.{first_cores}
use Rattle.sn_io.specs.Outside.{followed_by, Rose}
use Rattle.sn_model.specs.Machine.{State}
use Rattle.consistent_cuts.specs.Headline.{IsRun, IsConsistent, retirements}
use Rattle.consistent_cuts.proofs.Run.{reached_consistent}
use Rattle.script_replay.specs.Machine.{MachineData, flat_of}
use Rattle.sn_text.specs.Items.{most_items}
use Rattle.sn_text.specs.Trace.{trace_of}
use Rattle.sn_text.specs.Written.{HasValues}
use Rattle.sn_probe.specs.Probes.{Meter, tallies_of}
use Rattle.sn_console.specs.Handed.{IsHandedOn, IsBegun}
use Rattle.sink_pieces.specs.Pieces.{Piece, Ends, ends, after, Breaks, console_piece, report_text}
use Rattle.sink_pieces.proofs.PieceLaws.{report_text-append, after-append, after-console_piece, Breaks-after}
use Rattle.sink_pieces.proofs.Begun.{report-after, report-begun}
use Rattle.committed_accesses.specs.Rows.{access_rows_of}
use Rattle.committed_accesses.specs.Lines.{access_pieces}
use Rattle.script_replay.specs.Pieces.{trace_pieces, summary_pieces, end_pieces}
use Rattle.script_replay.specs.Played.{summary_pieces_of}
use Rattle.script_replay.specs.Shown.{IsLawful}
use Rattle.script_replay.proofs.Lawful.{run-lawful}
use Rattle.script_replay.proofs.ReadBack.{trace-read}
use Rattle.script_replay.proofs.Shown.{report_text-trace}
use Rattle.script_replay.proofs.Summaries.{comments-summary}
use Rattle.node_threads.specs.JournalEntry.{JournalEntry}
use Rattle.node_threads.specs.Journal.{Began, events_of, state_of}
use Rattle.node_threads.specs.Finish.{Finish}
use Rattle.node_threads.specs.Finish.TheVariants as finish
use Rattle.node_threads.specs.Finishes.{IsRunOf, finish_by, Ends as EndsSo}
use Rattle.node_threads.specs.Told.{told_all}
use Rattle.node_run.specs.declared.ending.Ending.{Ending}
use Rattle.node_run.specs.declared.job.Run.{Run}
use Rattle.sn_base.specs.declared.report.RunReport.{RunReport}
use Rattle.sn_base.specs.declared.report.RunReport.TheVariants.{Summary, Trace, Accesses, Journal}
use Rattle.node_run.specs.Endings.{ending_by, flat_after, ending_of}
use Rattle.node_run.specs.Pieces.{begins, tallies_by, entry_lines, journal_text, journal_pieces, rows_by, summary_by, report_by}
use Rattle.node_run.specs.Reported.{report_by_kind, report_now, HaveNumbers, ended_now, IsReported, IsUnreported}
use Rattle.node_run.specs.Shown.{MayBegin, IsJournal, IsTrace, AreRows, IsScript, written_trace}
use Rattle.node_run.specs.Shown.{IsDoneWith, IsBrokenOffWith, KnowAll, output_by}
use Rattle.node_run.proofs.ReadBack.{journal-read}
use Rattle.node_run.proofs.Replays.{told-replayed, replayed-so}

report_text-journal : (journal : List JournalEntry) → report_text (journal_pieces journal) ≡ journal_text journal
unfolding journal_pieces
report_text-journal [] = refl
report_text-journal (entry ∷ entries) = ap (λ t. entry_lines entry ++ t) (report_text-journal entries)

-- a run is stopped only where it has no end, and else it has the end that its journal says
stopped-by : (nodes : ℕ) (m : MachineData) (found : Finish) → ending_by nodes (flat_of m) found ≡ None → found ≡ finish.Stopped
stopped-by nodes m finish.Over e = cc
stopped-by nodes m (finish.CutOff a b) e = cc
stopped-by nodes m finish.Budget e = cc
stopped-by nodes m finish.Stopped e = refl

abbrev IsEnded : Began → List JournalEntry → Finish → List ℕ → Option (List ℕ) → Option (List ℕ) → Type 0
IsEnded began journal found released before after_ = IsHandedOn [] released before after_ × (finish_by began journal ≡ Some found)

ended-by : (nodes : ℕ) (m : MachineData) (began : Began) (journal : List JournalEntry) (found : Finish) (ending : Ending) (released : List ℕ)
    (before after_ : Option (List ℕ)) (was is : ℕ) → ending_by nodes (flat_of m) found ≡ Some ending →
    EndsSo began journal found released before after_ was is → IsEnded began journal found released before after_
ended-by nodes m began journal finish.Over ending released before after_ was is e h = h
ended-by nodes m began journal (finish.CutOff a b) ending released before after_ was is e h = h
ended-by nodes m began journal finish.Budget ending released before after_ was is e h = h
ended-by nodes m began journal finish.Stopped ending released before after_ was is e h = absurd cc

module _ (r : Run) (began : Began) (m : MachineData) (journal : List JournalEntry) (answers : List Answer) (same : began ≡ begins r) (left : IsRunOf began m journal answers) (may : MayBegin r) where
  by_run : IsRunOf (begins r) m journal answers
  by_run = subst (λ (b : Began). IsRunOf b m journal answers) same left

  its-journal : IsJournal r journal
  its-journal = record { due = by_run.due; workers = by_run.workers; fit = by_run.fit may.ruled; few = by_run.few }

  its-run : IsRun r.config (events_of journal)
  its-run = record { fits = may.fits; events_fit = its-journal.fit }

  lawful : IsLawful r.program r.config (events_of journal)
  lawful = run-lawful r.program r.config (events_of journal) its-run

  consistent : IsConsistent r.program r.config.nodes (state_of (begins r) journal) (retirements r.program r.config (events_of journal))
  unfolding state_of
  consistent = reached_consistent r.program r.config (events_of journal) its-run

  released-is : m.state.released ≡ output_by r journal
  released-is = ap (λ (s : State). s.released) by_run.state ∙ consistent.output

  flat-is : flat_of m ≡ flat_after (begins r) journal
  flat-is =
      ap (λ (i : ImageData). flat_of (record m { image = i })) by_run.image
      ∙ ap (λ (c : Config). flat_of (record m { image = r.program; config = c })) by_run.config
      ∙ ap (λ (s : State). flat_of (record m { image = r.program; config = r.config; state = s })) by_run.state

  pub knows-all : (before now_ : List Meter) → now_ ≡ told_all journal answers before → KnowAll r journal before now_
  knows-all before now_ told = told ∙ told-replayed r journal answers before by_run.answers_are

  -- cores at the start of the program are at that of the machine's
  pub cores-at_start : (cores : List CoreState) → cores ≡ first_cores r.config.nodes r.program.entry →
      cores ≡ first_cores m.config.nodes m.image.entry
  cores-at_start cores at =
      at ∙ ap (λ (i : ImageData). first_cores r.config.nodes i.entry) (sym by_run.image)
      ∙ ap (λ (c : Config). first_cores c.nodes m.image.entry) (sym by_run.config)

  -- the report

  summary-is : (mark : List ℕ) (probes : List Meter) (tallies : List (List ℕ)) → tallies ≡ tallies_by r probes journal →
      summary_pieces_of mark m r.showing.watch tallies ≡ summary_by mark r probes journal
  summary-is mark probes tallies are =
      ap (λ (i : ImageData). summary_pieces_of mark (record m { image = i }) r.showing.watch tallies) by_run.image
      ∙ ap (λ (c : Config). summary_pieces_of mark (record m { image = r.program; config = c }) r.showing.watch tallies) by_run.config
      ∙ ap (λ (s : State). summary_pieces_of mark
      (record m { image = r.program; config = r.config; state = s }) r.showing.watch tallies) by_run.state
      ∙ ap (λ (n : ℕ). summary_pieces mark r.program r.config r.showing.watch tallies n (state_of (begins r) journal)) by_run.applied
      ∙ ap (λ (t : List (List ℕ)). summary_pieces mark r.program r.config r.showing.watch t (length journal)
      (state_of (begins r) journal)) are

  rows-are : access_pieces (access_rows_of m.image m.config.nodes m.state.committed) ≡ rows_by r journal
  rows-are =
      ap (λ (i : ImageData). access_pieces (access_rows_of i m.config.nodes m.state.committed)) by_run.image
      ∙ ap (λ (c : Config). access_pieces (access_rows_of r.program c.nodes m.state.committed)) by_run.config
      ∙ ap (λ (s : State). access_pieces (access_rows_of r.program r.config.nodes s.committed)) by_run.state

  report-by_kind : (kind : RunReport) (probes : List Meter) (tallies : List (List ℕ)) → tallies ≡ tallies_by r probes journal →
      report_by_kind kind m journal r.showing tallies ≡ report_by kind r probes journal
  unfolding end_pieces
  report-by_kind Summary probes tallies are = summary-is [] probes tallies are
  report-by_kind Trace probes tallies are =
      ap (λ (s : State). trace_pieces s.committed ++ summary_pieces_of (codes "# ") m r.showing.watch tallies) by_run.state
      ∙ ap (λ (t : List Piece). trace_pieces (state_of (begins r) journal).committed ++ t) (summary-is (codes "# ") probes tallies are)
  report-by_kind Accesses probes tallies are =
      ap (λ (t : List Piece). t ++ summary_pieces_of (codes "# ") m r.showing.watch tallies) rows-are
      ∙ ap (λ (t : List Piece). rows_by r journal ++ t) (summary-is (codes "# ") probes tallies are)
  report-by_kind Journal probes tallies are =
      ap (λ (t : List Piece). journal_pieces journal ++ t) (summary-is (codes "# ") probes tallies are)

  report-is : (probes told : List Meter) → told ≡ told_all journal answers probes →
      report_now m journal r.showing (tallies_of told) ≡ report_by r.showing.report r probes journal
  report-is probes told are =
      report-by_kind r.showing.report probes (tallies_of told) (ap (λ (t : List Meter). tallies_of t) (knows-all probes told are))

  -- as a trace, and as a script
  trace-is_read : (probes : List Meter) → All HasValues (state_of (begins r) journal).committed →
      trace_of r.config.nodes (written_trace r probes journal) ≡ Ok (state_of (begins r) journal).committed
  unfolding state_of
  trace-is_read probes values =
      trace-read r.program r.config (events_of journal) its-run few values r.showing.watch (tallies_by r probes journal) (length journal) _
    where
      few : length (events_of journal) ≤ most_items
      few = omega (arith, length-map journal (λ (e : JournalEntry). e.event), by_run.few, may.few)

  is-trace : (probes : List Meter) (before behind : Option (List ℕ)) → All HasValues m.state.committed → r.showing.report ≡ Trace →
      behind ≡ followed_by before (report_text (report_by r.showing.report r probes journal)) → IsTrace r probes journal before behind
  is-trace probes before behind values kind put = record {
    execution = consistent.execution;
    written = put ∙ ap (λ (k : RunReport). followed_by before (report_text (report_by k r probes journal))) kind
        ∙ ap (followed_by before)
        (report_text-append (trace_pieces (state_of (begins r) journal).committed) (summary_by (codes "# ") r probes journal)
        ∙ ap (λ t. t ++ report_text (summary_by (codes "# ") r probes journal))
        (report_text-trace (state_of (begins r) journal).committed));
    read = trace-is_read probes (subst (λ (s : State). All HasValues s.committed) by_run.state values);
  }

  are-rows : (probes : List Meter) (before behind : Option (List ℕ)) → r.showing.report ≡ Accesses →
      behind ≡ followed_by before (report_text (report_by r.showing.report r probes journal)) → AreRows r probes journal before behind
  are-rows probes before behind kind put = record {
    execution = consistent.execution;
    written = put ∙ ap (λ (k : RunReport). followed_by before (report_text (report_by k r probes journal))) kind
        ∙ ap (followed_by before) (report_text-append (rows_by r journal) (summary_by (codes "# ") r probes journal));
  }

  is-script : (probes : List Meter) (before behind : Option (List ℕ)) → HaveNumbers journal → r.showing.report ≡ Journal →
      behind ≡ followed_by before (report_text (report_by r.showing.report r probes journal)) → IsScript r probes journal before behind
  is-script probes before behind numbers kind put = record {
    written = put ∙ ap (λ (k : RunReport). followed_by before (report_text (report_by k r probes journal))) kind
        ∙ ap (followed_by before) (report_text-append (journal_pieces journal) (summary_by (codes "# ") r probes journal)
        ∙ ap (λ t. t ++ report_text (summary_by (codes "# ") r probes journal)) (report_text-journal journal));
    read =
        journal-read r.config.nodes may.ruled.few journal (report_text (summary_by (codes "# ") r probes journal))
        (by_run.fit may.ruled) numbers (omega (arith, by_run.few, may.few))
        (comments-summary r.program r.config r.showing.watch (tallies_by r probes journal) (length journal)
        (state_of (begins r) journal));
  }

  -- where the run ended
  module _ (found : Finish) (ending : Ending) (was is : ℕ) (console written report shown : Option (List ℕ)) (probes told : List Meter) (is-ending : ending_by m.config.nodes (flat_of m) found ≡ Some ending) (so : EndsSo began journal found m.state.released console written was is) (are : told ≡ told_all journal answers probes) where
    ended : IsEnded began journal found m.state.released console written
    ended = ended-by m.config.nodes m began journal found ending m.state.released console written was is is-ending so

    its-ending : ending_of (begins r) journal ≡ Some ending
    its-ending =
        ap (λ (o : Option Finish). option_and_then (ending_by r.config.nodes (flat_after (begins r) journal)) o)
        (ap (λ (b : Began). finish_by b journal) (sym same) ∙ ended.1)
        ∙ ap (λ t. ending_by r.config.nodes t found) (sym flat-is)
        ∙ ap (λ (c : Config). ending_by c.nodes (flat_of m) found) (sym by_run.config) ∙ is-ending

    all-released : written ≡ followed_by console m.state.released
    all-released = ended.0.put ∙ ap (followed_by console) ended.0.grown

    output-is : written ≡ followed_by console (output_by r journal)
    output-is = all-released ∙ ap (followed_by console) released-is

    console-put : ends written report ≡ after (ends console report) (console_piece (state_of (begins r) journal).released)
    console-put =
        after-console_piece console written report (state_of (begins r) journal).released
        (all-released ∙ ap (λ (s : State). followed_by console s.released) by_run.state)

    run-done : (r.showing.report ≡ Journal → HaveNumbers journal) → (r.showing.report ≡ Trace → All HasValues m.state.committed) →
        ((c : Option (List ℕ)) → ends c shown ≡ after (ends c report) (report_now m journal r.showing (tallies_of told))) →
        IsDoneWith r journal probes ending (ends console report) (ends written shown) told
    run-done numbers values put =
        let whole : ends written shown ≡ after (ends written report) (report_by r.showing.report r probes journal) = put written
        ∙ ap (after (ends written report)) (report-is probes told are) in
        let text : shown ≡ followed_by report (report_text (report_by r.showing.report r probes journal)) = report-after
        (ends written report) (ends written shown) (report_by r.showing.report r probes journal) whole in (
          record {
            journal_is = its-journal;
            ended = its-ending;
            put = whole ∙ ap (λ (e : Ends). after e (report_by r.showing.report r probes journal)) console-put
                ∙ after-append (ends console report) (console_piece (state_of (begins r) journal).released)
                (report_by r.showing.report r probes journal);
            shown = record {
              lawful = lawful;
              output = output-is;
              traced = λ kind. is-trace probes report shown (values kind) kind text;
              accessed = λ kind. are-rows probes report shown kind text;
              journaled = λ kind. is-script probes report shown (numbers kind) kind text;
              replayed = replayed-so r probes journal consistent.output;
            };
          },
          knows-all probes told are,
        )

    run-cut_short : ((c : Option (List ℕ)) → Breaks (report_now m journal r.showing (tallies_of told)) (ends c report) (ends c shown)) →
        IsBrokenOffWith r journal probes was is (ends console report) (ends written shown) told
    run-cut_short put =
        let part : Breaks (report_by r.showing.report r probes journal) (ends written report) (ends written shown) =
        subst (λ (t : List Piece). Breaks t (ends written report) (ends written shown)) (report-is probes told are) (put written) in (
          knows-all probes told are,
          inr (
            ending,
            record {
              journal_is = its-journal;
              ended = its-ending;
              broken =
                  Breaks-after (console_piece (state_of (begins r) journal).released) (report_by r.showing.report r probes journal)
                  (ends console report) (ends written shown)
                  (subst (λ (e : Ends). Breaks (report_by r.showing.report r probes journal) e (ends written shown)) console-put part);
              shown = record {
                lawful = lawful;
                output = output-is;
                report =
                    report-begun (report_by r.showing.report r probes journal) part.whole part.rest part.piece part.count
                    (ends written report) (ends written shown) part.all part.put;
                replayed = replayed-so r probes journal consistent.output;
              };
            },
          ),
        )

  -- by what the workers left and what of it was put
  module _ (found : Finish) (was is : ℕ) (console written report shown : Option (List ℕ)) (probes told : List Meter) (so : EndsSo began journal found m.state.released console written was is) (are : told ≡ told_all journal answers probes) where
    stopped : ended_now m found ≡ None → IsBegun [] m.state.released console written × Rose was is
    stopped none =
        subst (λ (f : Finish). EndsSo began journal f m.state.released console written was is) (stopped-by m.config.nodes m found none) so

    run-stopped : ended_now m found ≡ None → shown ≡ report → IsBrokenOffWith r journal probes was is (ends console report) (ends written shown) told
    run-stopped none same =
        let failed = stopped none in (
          knows-all probes told are,
          inl (
            failed.1,
            record {
              journal_is = its-journal;
              lawful = lawful;
              output =
                  record {
                    put = failed.0.more;
                    left = failed.0.begun.rest;
                    whole = failed.0.begun.whole ∙ released-is;
                    written = failed.0.put;
                  };
              report = same;
            },
          ),
        )

    pub run-reported : (ending : Ending) → IsReported m journal found r.showing (tallies_of told) ending report shown →
        IsDoneWith r journal probes ending (ends console report) (ends written shown) told
    run-reported ending h = run-done found ending was is console written report shown probes told h.ended so are h.numbers h.values h.put

    pub run-unreported : IsUnreported m journal found r.showing (tallies_of told) report shown →
        IsBrokenOffWith r journal probes was is (ends console report) (ends written shown) told
    run-unreported (inl none) = run-stopped none.0 none.1
    run-unreported (inr h) = run-cut_short found h.ending was is console written report shown probes told h.ended so are h.broken
