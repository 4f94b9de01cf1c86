-- What a run that has had its turns lets be counted, and what it leaves.
use Rattle.std.proofs.Common.{◌≡◌, ℕ, ◌+◌, ◌<◌, ◌≤◌, true, List, [], ◌∷◌, ◌++◌, length, get_or, drop, ap, sym, subst, ◌∙◌, arith}
use Rattle.std.proofs.Common.{append_assoc}
use Rattle.std.proofs.lemmas.List.{drop_more}
use Rattle.sn_base.specs.Image.{ImageData}
use Rattle.sn_base.specs.declared.config.Config.{Config}
use Rattle.sn_base.specs.declared.event.Event.{Event}
use Rattle.sn_base.specs.declared.event.Answer.{Answer}
use Rattle.sn_base.specs.declared.limits.TheConstants.{EVENTS}
use Rattle.consistent_cuts.specs.Runs.{AllFit}
use Rattle.sn_machine.specs.Machine.{MachineData}
use Rattle.run_journals.specs.declared.entry.JournalEntry.{JournalEntry}
use Rattle.run_journals.specs.Journal.{events_of}
use Rattle.ordered_run.specs.Finishes.{IsRunOf}
use Rattle.ordered_run.specs.Run.{Run}
use Rattle.ordered_run.specs.Pieces.{begins}
use Rattle.ordered_run.specs.NodeRunShown.{MayBegin}
use Rattle.ordered_run.specs.Count.{Count}
use Rattle.ordered_run.specs.Counted.{Counts}
use Rattle.ordered_run.specs.Statistics.{statistics_of}
use Rattle.ordered_run.specs.Lines.{statistics_lines}
use Rattle.seed_runs.specs.Pieces.{statistics_text}
use Rattle.seed_runs.specs.Played.{statistics_now}

-- one more of a journal's events
pub events-next : (journal : List JournalEntry) (i : ℕ) (entry : JournalEntry) (had : List Event) → i < length journal →
    entry ≡ get_or journal i entry → had ++ events_of (drop i journal) ≡ events_of journal →
    (had ++ entry.event ∷ []) ++ events_of (drop (i + 1) journal) ≡ events_of journal
events-next journal i entry had below is h =
    append_assoc had (entry.event ∷ []) (events_of (drop (i + 1) journal))
    ∙ ap (λ (l : List JournalEntry). had ++ events_of l)
    (sym (drop_more journal i entry below ∙ ap (λ (t : JournalEntry). t ∷ drop (i + 1) journal) (sym is)))
    ∙ h

module _ (r : Run) (m : MachineData) (journal : List JournalEntry) (answers : List Answer) (run : IsRunOf (begins r) m journal answers) where
  pub statistics-are : statistics_now m journal ≡ statistics_text r journal
  statistics-are =
      ap (λ (i : ImageData). statistics_lines m.config.nodes (statistics_of i m.config (events_of journal))) run.image
      ∙ ap (λ (k : Config). statistics_lines k.nodes (statistics_of r.program k (events_of journal))) run.config

  -- the same by a count that rode along with its turns
  pub counted-are : (count : Count) → Counts count m (events_of journal) → count.on ≡ true →
      statistics_lines r.config.nodes count.statistics ≡ statistics_text r journal
  counted-are count counts on =
      ap (statistics_lines r.config.nodes) (counts on).statistics
      ∙ ap (λ (i : ImageData). statistics_lines r.config.nodes (statistics_of i m.config (events_of journal))) run.image
      ∙ ap (λ (k : Config). statistics_lines r.config.nodes (statistics_of r.program k (events_of journal))) run.config

  module _ (may : MayBegin r) where
    pub events-fit : AllFit m.config.nodes (events_of journal)
    events-fit = subst (λ (k : Config). AllFit k.nodes (events_of journal)) (sym run.config) (run.fit may.ruled)

    pub events-few : length journal ≤ EVENTS
    events-few = let few = run.few in let most = may.few in omega (arith, few, most)
