-- A run with a journal is lawful; the journal of an order is one of a run.
use Rattle.std.proofs.Common.{◌≡◌, ℕ, zero, suc, ◌<◌, ◌≤◌, List, [], ◌∷◌, ◌++◌, length, get_or, refl, sym, subst, arith, length-append}
use Rattle.std.specs.Prelude.{Option, Some, None, IsSome}
use Rattle.std.specs.List.{All}
use Rattle.sn_base.specs.declared.event.Event.{Event}
use Rattle.sn_base.specs.Rules.{AreRules}
use Rattle.consistent_cuts.specs.Runs.{AllFit}
use Rattle.consistent_cuts.specs.Headline.{IsRun, IsConsistent, retirements}
use Rattle.consistent_cuts.proofs.Run.{reached_consistent}
use Rattle.sn_probe.specs.Probes.{Meter}
use Rattle.sink_pieces.specs.Pieces.{Ends}
use Rattle.script_replay.proofs.Lawful.{run-lawful}
use Rattle.run_journals.specs.declared.entry.JournalEntry.{JournalEntry}
use Rattle.run_journals.specs.Journal.{Began, entry_of, events_of, next_pick, numbers_of, state_of}
use Rattle.run_journals.proofs.Folds.{events_of-snoc}
use Rattle.ordered_run.proofs.Fits.{due-fits, all_fit-push}
use Rattle.ordered_run.specs.Ending.{Ending}
use Rattle.ordered_run.specs.Run.{Run}
use Rattle.ordered_run.specs.Endings.{ending_of}
use Rattle.ordered_run.specs.Pieces.{begins}
use Rattle.ordered_run.specs.NodeRunShown.{MayBegin, IsJournal}
use Rattle.ordered_run.proofs.Replays.{replayed-so}
use Rattle.turn_orders.specs.declared.order.Order.{Order}
use Rattle.turn_orders.proofs.Schedulers.{worker-below}
use Rattle.ordered_run.specs.Ordered.{next_worker, due_after, with_due, journal_after, ordered_journal, ordered_end}
use Rattle.ordered_run.proofs.OrderLaws.{due-ordered, workers-ordered, ordered-ends}
use Rattle.seed_runs.specs.Shown.{IsLawfulRun, IsDoneCounted, IsBrokenCounted, IsLawfulWith, IsCountedWith, IsCountedInPart}

module _ (order : Order) (began : Began) (ruled : AreRules began.rules began.config.nodes) where
  some : 0 < began.config.nodes
  some = let one = ruled.some in omega (arith, one)

  -- its events fit the machine
  fits-with : (journal : List JournalEntry) (worker : ℕ) (o : Option Event) → worker < began.config.nodes →
      due_after began journal worker ≡ o → AllFit began.config.nodes (events_of journal) →
      AllFit began.config.nodes (events_of (with_due journal worker o))
  fits-with journal worker None below e h = h
  fits-with journal worker (Some event) below e h =
      subst (AllFit began.config.nodes) (sym (events_of-snoc journal (entry_of worker event)))
      (all_fit-push began.config.nodes (events_of journal) event h
      (due-fits began.rules began.image began.config (state_of began journal) (numbers_of began journal) worker
      (next_pick began.seed journal worker) event ruled below e))

  fits-ordered : (turns : ℕ) → AllFit began.config.nodes (events_of (journal_after order began turns))
  unfolding journal_after
  fits-ordered zero = tt
  fits-ordered (suc turns) =
      let journal = journal_after order began turns in
      let worker = next_worker order began journal in
      fits-with journal worker (due_after began journal worker)
      (worker-below order began.seed began.config.nodes (length journal) some) refl (fits-ordered turns)

  -- its workers are the nodes'
  nodes-ordered : (turns : ℕ) → All (λ (e : JournalEntry). e.worker < began.config.nodes) (journal_after order began turns)
  nodes-ordered turns i d l =
      subst (λ (n : ℕ). n < began.config.nodes) (sym (workers-ordered order began turns i d l))
      (worker-below order began.seed began.config.nodes i some)

  -- and it is no longer than its turns
  few-with : (journal : List JournalEntry) (worker turns : ℕ) (o : Option Event) → length journal ≤ turns →
      length (with_due journal worker o) ≤ suc turns
  few-with journal worker turns None l = omega (arith, l)
  few-with journal worker turns (Some event) l =
      let more = length-append journal (entry_of worker event ∷ []) in omega (arith, l, more)

  few-ordered : (turns : ℕ) → length (journal_after order began turns) ≤ turns
  unfolding journal_after
  few-ordered zero = omega arith
  few-ordered (suc turns) =
      let journal = journal_after order began turns in
      let worker = next_worker order began journal in
      few-with journal worker turns (due_after began journal worker) (few-ordered turns)

-- an end that is there
its-ending : (o : Option Ending) → IsSome o → (ending : Ending) × (o ≡ Some ending)
its-ending None h = absurd cc
its-ending (Some ending) h = (ending, refl)

-- a run with this journal and this end is lawful
module _ (r : Run) (may : MayBegin r) (journal : List JournalEntry) (journal_is : IsJournal r journal) where
  its-run : IsRun r.config (events_of journal)
  its-run = record { fits = may.fits; events_fit = journal_is.fit }

  consistent : IsConsistent r.program r.config.nodes (state_of (begins r) journal) (retirements r.program r.config (events_of journal))
  unfolding state_of
  consistent = reached_consistent r.program r.config (events_of journal) its-run

  pub lawful-with : (probes : List Meter) (ending : Ending) → ending_of (begins r) journal ≡ Some ending →
      IsLawfulWith r journal probes ending
  lawful-with probes ending ended = record {
    journal_is = journal_is;
    ended = ended;
    lawful = run-lawful r.program r.config (events_of journal) its-run;
    output = consistent.output;
    replayed = replayed-so r probes journal consistent.output;
  }

-- so is one in an order
module _ (order : Order) (r : Run) (may : MayBegin r) where
  abbrev its : List JournalEntry
  its = ordered_journal order (begins r)

  its-journal : IsJournal r its
  its-journal = record {
    due = due-ordered order (begins r) r.budget;
    workers = nodes-ordered order (begins r) may.ruled r.budget;
    fit = fits-ordered order (begins r) may.ruled r.budget;
    few = few-ordered order (begins r) may.ruled r.budget;
  }

  pub run-is_lawful : (probes : List Meter) → IsLawfulRun order r probes
  run-is_lawful probes =
      let end = its-ending (ordered_end order (begins r)) (ordered-ends order (begins r)) in
      let all = lawful-with r may its its-journal probes end.0 end.1 in record {
        journal_is = all.journal_is;
        ending = end.0;
        ended = end.1;
        lawful = all.lawful;
        output = all.output;
        replayed = all.replayed;
      }

  module _ (probes told : List Meter) (before behind : Ends) where
    pub counted-in_order : (ending : Ending) → IsCountedWith r its probes ending before behind told →
        IsDoneCounted order r probes ending before behind told
    counted-in_order ending h = record {
      ended = h.lawful.ended;
      put = h.put;
      output = h.output;
      lawful = run-is_lawful probes;
      know = h.know;
    }

    pub broken-in_order : IsCountedInPart r its probes before behind told → IsBrokenCounted order r probes before behind told
    broken-in_order h = record { broken = h.broken; lawful = run-is_lawful probes; know = h.know }
