-- What is put of a run that has had its turns, by the machine that it left.
use Rattle.std.proofs.Common.{◌≡◌, ◌⊎◌, inl, inr, ⊎_elim, ℕ, ◌+◌, ◌≤◌, Bool, true, false, List, [], ◌∷◌, ◌++◌, length, refl, ap, sym, subst, ◌∙◌, arith}
use Rattle.std.specs.Prelude.{Option, Some, None, Ok, option_and_then}
use Rattle.rv_core.specs.Flat.{FlatState}
use Rattle.sn_base.specs.declared.event.Answer.{Answer}
use Rattle.sn_io.specs.Outside.{followed_by, Rose}
use Rattle.sn_model.specs.Machine.{State}
use Rattle.sn_console.specs.Handed.{IsHandedOn}
use Rattle.sn_probe.specs.Probes.{Meter, tallies_of}
use Rattle.sink_pieces.specs.Pieces.{Piece, Report, Ends, ends, after, Breaks, console_piece}
use Rattle.sink_pieces.proofs.Begun.{console-after, console_text-piece}
use Rattle.run_journals.specs.declared.entry.JournalEntry.{JournalEntry}
use Rattle.run_journals.specs.Journal.{Began, state_of}
use Rattle.run_journals.proofs.Folds.{length-answers_of}
use Rattle.ordered_run.specs.Finish.{Finish}
use Rattle.ordered_run.specs.Finish.TheVariants as finish
use Rattle.ordered_run.specs.Finishes.{Ends as EndsSo}
use Rattle.ordered_run.specs.Told.{told_all}
use Rattle.ordered_run.proofs.Finishing.{ends-of}
use Rattle.ordered_run.specs.Ending.{Ending}
use Rattle.ordered_run.specs.Ending.TheVariants as endings
use Rattle.ordered_run.specs.Run.{Run}
use Rattle.ordered_run.specs.RunShowing.{RunShowing}
use Rattle.ordered_run.specs.Endings.{first_trap, ended_by, ending_by, flat_after, ending_of}
use Rattle.ordered_run.specs.Pieces.{begins, report_by, run_pieces}
use Rattle.ordered_run.specs.Reported.{ended_now, IsReported}
use Rattle.ordered_run.specs.NodeRunShown.{MayBegin as MayRun, IsJournal, IsDoneWith, IsBrokenOffWith, KnowAll, output_by}
use Rattle.ordered_run.proofs.Runs.{run-reported, run-unreported, knows-all}
use Rattle.ordered_run.proofs.Outcomes.{cause-by, no-rise}
use Rattle.seed_runs.specs.declared.job.SeedRuns.{SeedRuns}
use Rattle.seed_runs.specs.declared.play.Played.{Played}
use Rattle.seed_runs.specs.Text.{seed_line, end_line}
use Rattle.seed_runs.specs.Pieces.{statistics_text, counted_pieces, run_of, journal_of, piece_if, end_pieces, tail_pieces, seed_pieces}
use Rattle.seed_runs.specs.Played.{IsPlayed, IsUnput}
use Rattle.seed_runs.specs.Shown.{MayBegin, AreLawful, IsCountedWith, IsCountedInPart}
use Rattle.seed_runs.proofs.LawfulRuns.{lawful-with, run-is_lawful}
use Rattle.seed_runs.proofs.Blocks.{block-put, head-breaks, middle-breaks, tail-breaks, both-put, first-breaks, last-breaks}

-- a text that the console took is what is released
pub handed-on : (released text : List ℕ) (written writes : Option (List ℕ)) → text ≡ released →
    ((r : Option (List ℕ)) → ends writes r ≡ after (ends written r) (console_piece text)) → IsHandedOn [] released written writes
handed-on released text written writes is put = record {
  more = released;
  grown = refl;
  put = console-after (ends written None) (ends writes None) (console_piece text) (put None)
      ∙ ap (followed_by written) (console_text-piece text ∙ is);
}

pub console-broke : (released text : List ℕ) (before behind : Ends) → text ≡ released → Breaks (console_piece text) before behind →
    Breaks (console_piece released) before behind
console-broke released text before behind is broken = subst (λ (t : List ℕ). Breaks (console_piece t) before behind) is broken

-- a range that may be run lets each of its seeds be run
pub may-run : (r : SeedRuns) (seed : ℕ) → MayBegin r → MayRun (run_of r seed)
may-run r seed may = record { fits = may.fits; ruled = may.ruled; few = may.few; watched = may.watched }

-- so the run of each is lawful
pub all-lawful : (r : SeedRuns) → MayBegin r → AreLawful r
all-lawful r may = λ seed. run-is_lawful r.order (run_of r seed) (may-run r seed may) []

-- as many events as answers
pub answered-each : (r : Run) (its : List JournalEntry) (counted : Bool) (p : Played) → IsPlayed r its counted p →
    length p.finished.answers.items ≡ length p.finished.journal.items
answered-each r its counted p played =
    ap (λ (l : List Answer). length l) played.run.answers_are ∙ length-answers_of (begins r) p.finished.journal.items

-- a run that no sink could stop has an end
ending-found : (began : Began) (nodes : ℕ) (flat : FlatState) (journal : List JournalEntry) (found : Finish) (released : List ℕ)
    (before behind : Option (List ℕ)) → EndsSo began journal found released before behind 0 0 →
    (ending : Ending) × (ending_by nodes flat found ≡ Some ending)
ending-found began nodes flat journal finish.Stopped released before behind so = absurd (no-rise so.1)
ending-found began nodes flat journal finish.Over released before behind so = (ended_by (first_trap nodes flat), refl)
ending-found began nodes flat journal (finish.CutOff a b) released before behind so = (endings.CutOff a b, refl)
ending-found began nodes flat journal finish.Budget released before behind so = (endings.Spent, refl)

module _ (r : Run) (its : List JournalEntry) (counted : Bool) (p : Played) (played : IsPlayed r its counted p) (may : MayRun r) where
  its-journal : IsJournal r its
  its-journal =
      subst (λ (l : List JournalEntry). IsJournal r l) played.journal
      (record { due = played.run.due; workers = played.run.workers; fit = played.run.fit may.ruled; few = played.run.few })

  ends-so : (written writes : Option (List ℕ)) → IsHandedOn [] p.finished.machine.state.released written writes →
      EndsSo (begins r) p.finished.journal.items p.finished.finish p.finished.machine.state.released written writes 0 0
  ends-so written writes handed =
      ends-of (begins r) p.finished.journal.items p.finished.machine.state.released written writes 0 0 (Ok tt) p.finished.finish
      p.finished.finish refl (λ sound. played.finish) (handed, omega arith)

  unstopped : EndsSo (begins r) p.finished.journal.items p.finished.finish p.finished.machine.state.released None None 0 0
  unstopped = ends-so None None (record { more = p.finished.machine.state.released; grown = refl; put = refl })

  -- so it has an end, and what isn't put has its cause in a sink
  its-end : (ending : Ending) × (ending_of (begins r) its ≡ Some ending)
  its-end =
      let flat = flat_after (begins r) p.finished.journal.items in
      let found = ending-found (begins r) r.config.nodes flat p.finished.journal.items p.finished.finish
      p.finished.machine.state.released None None unstopped in (
        found.0,
        subst (λ (l : List JournalEntry). ending_of (begins r) l ≡ Some found.0) played.journal
            (ap (λ (o : Option Finish). option_and_then (ending_by r.config.nodes flat) o) played.finish ∙ found.1),
      )

  pub caused : (broken : Type 0) → (ended_now p.finished.machine p.finished.finish ≡ None) ⊎ broken → broken
  caused broken why =
      ⊎_elim (λ (rose : Rose 0 0). absurd (no-rise rose)) (λ (h : broken). h)
      (cause-by (begins r) p.finished.machine.config.nodes _ p.finished.journal.items p.finished.finish
      p.finished.machine.state.released None None 0 0 broken unstopped why)

  module _ (probes told : List Meter) (are : told ≡ told_all p.finished.journal.items p.finished.answers.items probes) where
    pub know-all : KnowAll r its probes told
    know-all =
        subst (λ (l : List JournalEntry). KnowAll r l probes told) played.journal
        (knows-all r (begins r) p.finished.machine p.finished.journal.items p.finished.answers.items refl played.run may probes told are)

    -- all of it is put
    done-with : (ending : Ending) (written writes report reports : Option (List ℕ)) →
        IsHandedOn [] p.finished.machine.state.released written writes →
        IsReported p.finished.machine p.finished.journal.items p.finished.finish r.showing (tallies_of told) ending report reports →
        IsDoneWith r its probes ending (ends written report) (ends writes reports) told
    done-with ending written writes report reports handed reported =
        subst (λ (l : List JournalEntry). IsDoneWith r l probes ending (ends written report) (ends writes reports) told) played.journal
        (run-reported r (begins r) p.finished.machine p.finished.journal.items p.finished.answers.items refl played.run may
        p.finished.finish 0 0 written writes report reports probes told (ends-so written writes handed) are ending reported)

    -- or a sink broke
    broke-console : (before behind : Ends) → Breaks (console_piece p.finished.machine.state.released) before behind →
        Breaks (run_pieces r probes p.finished.journal.items) before behind
    broke-console before behind broken =
        first-breaks (console_piece (state_of (begins r) p.finished.journal.items).released)
        (report_by r.showing.report r probes p.finished.journal.items) before behind
        (subst (λ (s : State). Breaks (console_piece s.released) before behind) played.run.state broken)

    broke-with : (before behind : Ends) → IsBrokenOffWith r p.finished.journal.items probes 0 0 before behind told →
        Breaks (run_pieces r probes p.finished.journal.items) before behind
    broke-with before behind (knows, inl (rose, stopped)) = absurd (no-rise rose)
    broke-with before behind (knows, inr (ending, cut)) = cut.broken

    broke-some : (before behind : Ends) →
        IsUnput p.finished.machine p.finished.journal.items p.finished.finish r.showing (tallies_of told) before behind →
        Breaks (run_pieces r probes p.finished.journal.items) before behind
    broke-some before behind (inl broken) = broke-console before behind broken
    broke-some before behind (inr (handed, unreported)) =
        broke-with before behind
        (run-unreported r (begins r) p.finished.machine p.finished.journal.items p.finished.answers.items refl played.run may
        p.finished.finish 0 0 before.console behind.console before.report behind.report probes told
        (ends-so before.console behind.console handed) are unreported)

    broke : (before behind : Ends) →
        IsUnput p.finished.machine p.finished.journal.items p.finished.finish r.showing (tallies_of told) before behind →
        Breaks (run_pieces r probes its) before behind
    broke before behind unput =
        subst (λ (l : List JournalEntry). Breaks (run_pieces r probes l) before behind) played.journal (broke-some before behind unput)

    -- a run with its statistics
    module _ (asked : counted ≡ true) (showing : RunShowing) (shown : showing ≡ r.showing) where
      text-is : Report p.statistics.items ∷ [] ≡ Report (statistics_text r its) ∷ []
      text-is =
          ap (λ (t : List ℕ). Report t ∷ []) (played.statistics asked)
          ∙ ap (λ (l : List JournalEntry). Report (statistics_text r l) ∷ []) played.journal

      done-so : (ending : Ending) (written writes report reports : Option (List ℕ)) →
          IsHandedOn [] p.finished.machine.state.released written writes →
          IsReported p.finished.machine p.finished.journal.items p.finished.finish showing (tallies_of told) ending report reports →
          IsDoneWith r its probes ending (ends written report) (ends writes reports) told
      done-so ending written writes report reports handed reported =
          done-with ending written writes report reports handed
          (subst (λ (s : RunShowing). IsReported p.finished.machine p.finished.journal.items p.finished.finish s (tallies_of told) ending report
          reports) shown reported)

      pub counted-done : (ending : Ending) (written writes report reports counts : Option (List ℕ)) →
          IsHandedOn [] p.finished.machine.state.released written writes →
          IsReported p.finished.machine p.finished.journal.items p.finished.finish showing (tallies_of told) ending report reports →
          ends writes counts ≡ after (ends writes reports) (Report p.statistics.items ∷ []) →
          IsCountedWith r its probes ending (ends written report) (ends writes counts) told
      counted-done ending written writes report reports counts handed reported put =
          let done = done-so ending written writes report reports handed reported in record {
            put =
                both-put (run_pieces r probes its) (Report (statistics_text r its) ∷ []) (ends written report) (ends writes reports)
                (ends writes counts) done.0.put (put ∙ ap (after (ends writes reports)) text-is);
            output = done.0.shown.output;
            lawful = lawful-with r may its its-journal probes ending done.0.ended;
            know = know-all;
          }

      pub run-broke : (before behind : Ends) →
          IsUnput p.finished.machine p.finished.journal.items p.finished.finish showing (tallies_of told) before behind →
          IsCountedInPart r its probes before behind told
      run-broke before behind unput = record {
        ending = its-end.0;
        broken =
            first-breaks (run_pieces r probes its) (Report (statistics_text r its) ∷ []) before behind
            (broke before behind
            (subst (λ (s : RunShowing). IsUnput p.finished.machine p.finished.journal.items p.finished.finish s (tallies_of told) before
            behind) shown unput));
        lawful = lawful-with r may its its-journal probes its-end.0 its-end.1;
        know = know-all;
      }

      pub statistics-broke : (ending : Ending) (written writes report reports counts : Option (List ℕ)) →
          IsHandedOn [] p.finished.machine.state.released written writes →
          IsReported p.finished.machine p.finished.journal.items p.finished.finish showing (tallies_of told) ending report reports →
          Breaks (Report p.statistics.items ∷ []) (ends writes reports) (ends writes counts) →
          IsCountedInPart r its probes (ends written report) (ends writes counts) told
      statistics-broke ending written writes report reports counts handed reported broken =
          let done = done-so ending written writes report reports handed reported in record {
            ending = ending;
            broken =
                last-breaks (run_pieces r probes its) (Report (statistics_text r its) ∷ []) (ends written report) (ends writes reports)
                (ends writes counts) done.0.put
                (subst (λ (t : List Piece). Breaks t (ends writes reports) (ends writes counts)) text-is broken);
            lawful = lawful-with r may its its-journal probes ending done.0.ended;
            know = know-all;
          }

-- the block of a seed

if-is : (asked : Bool) (text other : List ℕ) → (asked ≡ true → text ≡ other) → piece_if asked text ≡ piece_if asked other
if-is false text other is = refl
if-is true text other is = ap (λ (t : List ℕ). Report t ∷ []) (is refl)

seed-is : (r : SeedRuns) (seed : ℕ) →
    seed_pieces r seed ≡ Report (seed_line seed) ∷ (run_pieces (run_of r seed) [] (journal_of r seed) ++ tail_pieces r seed)
unfolding seed_pieces
seed-is r seed = refl

module _ (r : SeedRuns) (seed : ℕ) (p : Played) (may : MayBegin r) (played : IsPlayed (run_of r seed) (journal_of r seed) r.statistics p) (tallies : List (List ℕ)) (none : tallies ≡ []) where
  abbrev head : Piece
  head = Report (seed_line seed)

  abbrev middle : List Piece
  middle = run_pieces (run_of r seed) [] (journal_of r seed)

  by_none : (ending : Ending) (report reports : Option (List ℕ)) →
      IsReported p.finished.machine p.finished.journal.items p.finished.finish (run_of r seed).showing tallies ending report reports →
      IsReported p.finished.machine p.finished.journal.items p.finished.finish (run_of r seed).showing [] ending report reports
  by_none ending report reports h =
      subst (λ (t : List (List ℕ)). IsReported p.finished.machine p.finished.journal.items p.finished.finish (run_of r seed).showing t
      ending report reports) none h

  done : (ending : Ending) (written writes report reports : Option (List ℕ)) →
      IsHandedOn [] p.finished.machine.state.released written writes →
      IsReported p.finished.machine p.finished.journal.items p.finished.finish (run_of r seed).showing tallies ending report reports →
      IsDoneWith (run_of r seed) (journal_of r seed) [] ending (ends written report) (ends writes reports) []
  done ending written writes report reports handed reported =
      done-with (run_of r seed) (journal_of r seed) r.statistics p played (may-run r seed may) [] [] refl ending written writes report reports handed
      (by_none ending report reports reported)

  tail-is : (ending : Ending) → ending_of (begins (run_of r seed)) (journal_of r seed) ≡ Some ending →
      piece_if r.statistics p.statistics.items ++ Report (end_line ending) ∷ [] ≡ tail_pieces r seed
  tail-is ending ended =
      ap (λ (ps : List Piece). ps ++ Report (end_line ending) ∷ [])
      (if-is r.statistics p.statistics.items (statistics_text (run_of r seed) p.finished.journal.items) played.statistics
      ∙ ap (λ (l : List JournalEntry). piece_if r.statistics (statistics_text (run_of r seed) l)) played.journal)
      ∙ ap (λ (o : Option Ending). piece_if r.statistics (statistics_text (run_of r seed) (journal_of r seed)) ++ end_pieces o) (sym ended)

  -- all is put
  pub seed-put : (ending : Ending) (written writes report first reports last : Option (List ℕ)) →
      ends written first ≡ after (ends written report) (head ∷ []) → IsHandedOn [] p.finished.machine.state.released written writes →
      IsReported p.finished.machine p.finished.journal.items p.finished.finish (run_of r seed).showing tallies ending first reports →
      ends writes last ≡ after (ends writes reports) (piece_if r.statistics p.statistics.items ++ Report (end_line ending) ∷ []) →
      ends writes last ≡ after (ends written report) (seed_pieces r seed)
  seed-put ending written writes report first reports last begun handed reported put =
      let all = done ending written writes first reports handed reported in
      block-put head middle (tail_pieces r seed) (ends written report) (ends written first) (ends writes reports) (ends writes last) begun
      all.0.put (put ∙ ap (after (ends writes reports)) (tail-is ending all.0.ended))
      ∙ ap (after (ends written report)) (sym (seed-is r seed))

  -- or a sink broke
  block-broke : (before behind : Ends) → Breaks (head ∷ (middle ++ tail_pieces r seed)) before behind → Breaks (seed_pieces r seed) before behind
  block-broke before behind broken = subst (λ (t : List Piece). Breaks t before behind) (sym (seed-is r seed)) broken

  pub head-broke : (before behind : Ends) → Breaks (head ∷ []) before behind → Breaks (seed_pieces r seed) before behind
  head-broke before behind broken = block-broke before behind (head-breaks head middle (tail_pieces r seed) before behind broken)

  pub middle-broke : (before between behind : Ends) → between ≡ after before (head ∷ []) →
      IsUnput p.finished.machine p.finished.journal.items p.finished.finish (run_of r seed).showing tallies between behind →
      Breaks (seed_pieces r seed) before behind
  middle-broke before between behind begun unput =
      block-broke before behind
      (middle-breaks head middle (tail_pieces r seed) before between behind begun
      (broke (run_of r seed) (journal_of r seed) r.statistics p played (may-run r seed may) [] [] refl between behind
      (subst (λ (t : List (List ℕ)). IsUnput p.finished.machine p.finished.journal.items p.finished.finish (run_of r seed).showing t between
      behind) none unput)))

  pub tail-broke : (ending : Ending) (written writes report first reports last : Option (List ℕ)) →
      ends written first ≡ after (ends written report) (head ∷ []) → IsHandedOn [] p.finished.machine.state.released written writes →
      IsReported p.finished.machine p.finished.journal.items p.finished.finish (run_of r seed).showing tallies ending first reports →
      Breaks (piece_if r.statistics p.statistics.items ++ Report (end_line ending) ∷ []) (ends writes reports) (ends writes last) →
      Breaks (seed_pieces r seed) (ends written report) (ends writes last)
  tail-broke ending written writes report first reports last begun handed reported broken =
      let all = done ending written writes first reports handed reported in
      block-broke (ends written report) (ends writes last)
      (tail-breaks head middle (tail_pieces r seed) (ends written report) (ends written first) (ends writes reports) (ends writes last) begun
      all.0.put
      (subst (λ (t : List Piece). Breaks t (ends writes reports) (ends writes last)) (tail-is ending all.0.ended) broken))
