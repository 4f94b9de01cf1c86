-- What a run in an order has put, by what its turns left.
use Rattle.std.proofs.Common.{◌≡◌, ◌⊎◌, inl, inr, ℕ, ◌≤◌, List, length, refl, ap, subst, ◌∙◌, arith}
use Rattle.std.specs.Prelude.{Option, Some, None, option_and_then}
use Rattle.sn_io.specs.Outside.{Rose}
use Rattle.sn_probe.specs.Probes.{Meter}
use Rattle.sink_pieces.specs.Pieces.{Ends}
use Rattle.run_journals.specs.declared.entry.JournalEntry.{JournalEntry}
use Rattle.run_journals.specs.Journal.{Began}
use Rattle.node_run.specs.Finish.{Finish}
use Rattle.node_run.specs.Finish.TheVariants as finish
use Rattle.rv_core.specs.Flat.{FlatState}
use Rattle.node_run.specs.Finishes.{finish_by, Ends as EndsSo}
use Rattle.node_run.specs.declared.ending.Ending.{Ending}
use Rattle.node_run.specs.declared.job.Run.{Run}
use Rattle.node_run.specs.Endings.{ending_by, flat_after, ending_of}
use Rattle.node_run.specs.Pieces.{begins}
use Rattle.node_run.specs.Shown.{IsJournal, IsDoneWith, IsBrokenOffWith, IsStopped, IsCutShort, KnowAll}
use Rattle.turn_orders.specs.declared.order.Order.{Order}
use Rattle.ordered_run.specs.Ordered.{journal_after, ordered_journal}
use Rattle.ordered_run.specs.Shown.{IsDone, IsBrokenOff}
use Rattle.ordered_run.proofs.Orders.{whole}

-- a run with an end has a finish
finished : (f : Finish → Option Ending) (o : Option Finish) (ending : Ending) → option_and_then f o ≡ Some ending →
    (found : Finish) × (o ≡ Some found)
finished f None ending e = absurd cc
finished f (Some found) ending e = (found, refl)

-- the journal of a run's turns is that of the order from what the run began with
pub ordered-by : (o order : Order) (b began : Began) (journal : List JournalEntry) → o ≡ order → b ≡ began →
    journal ≡ journal_after o b (length journal) → journal ≡ journal_after order began (length journal)
ordered-by o order b began journal same_order same is =
    is ∙ ap (λ (x : Order). journal_after x b (length journal)) same_order
    ∙ ap (λ (x : Began). journal_after order x (length journal)) same

module _ (order : Order) (r : Run) (journal : List JournalEntry) (ordered : journal ≡ journal_after order (begins r) (length journal)) where
  whole-by : IsJournal r journal → (ending : Ending) → ending_of (begins r) journal ≡ Some ending → journal ≡ ordered_journal order (begins r)
  whole-by its ending e =
      let f = finished (ending_by r.config.nodes (flat_after (begins r) journal)) (finish_by (begins r) journal) ending e in
      whole order (begins r) journal ordered its.few f.0 f.1

  -- where no sink could stop it, the journal is the whole run's
  pub whole-by_finish : (found : Finish) → length journal ≤ r.budget → finish_by (begins r) journal ≡ Some found →
      journal ≡ ordered_journal order (begins r)
  whole-by_finish found few is = whole order (begins r) journal ordered few found is

  pub ordered-done : (probes told : List Meter) (ending : Ending) (before behind : Ends) →
      IsDoneWith r journal probes ending before behind told → IsDone order r probes ending before behind told
  ordered-done probes told ending before behind h =
      subst (λ (l : List JournalEntry). IsDoneWith r l probes ending before behind told) (whole-by h.0.journal_is ending h.0.ended) h

  pub ordered-broken : (probes told : List Meter) (was is : ℕ) (before behind : Ends) →
      IsBrokenOffWith r journal probes was is before behind told → IsBrokenOff order r probes was is before behind told
  ordered-broken probes told was is before behind (knows, inl (rose, stopped)) = inl (
    length journal,
    record {
      rose = rose;
      stopped = subst (λ (l : List JournalEntry). IsStopped r l before behind) ordered stopped;
      know = subst (λ (l : List JournalEntry). KnowAll r l probes told) ordered knows;
    },
  )
  ordered-broken probes told was is before behind (knows, inr (ending, cut)) =
      let all = whole-by cut.journal_is ending cut.ended in inr (
        ending,
        record {
          cut_short = subst (λ (l : List JournalEntry). IsCutShort r probes ending l before behind) all cut;
          know = subst (λ (l : List JournalEntry). KnowAll r l probes told) all knows;
        },
      )

-- a sink without faults stops no run
pub no-rise : Rose 0 0 → ⊥
no-rise rose = omega (arith, rose)

pub unstopped-by : (began : Began) (journal : List JournalEntry) (found : Finish) (released : List ℕ) (before behind : Option (List ℕ)) →
    EndsSo began journal found released before behind 0 0 → finish_by began journal ≡ Some found
unstopped-by began journal finish.Stopped released before behind so = absurd (no-rise so.1)
unstopped-by began journal finish.Over released before behind so = so.1
unstopped-by began journal (finish.CutOff a b) released before behind so = so.1
unstopped-by began journal finish.Budget released before behind so = so.1

-- a run that was stopped found the console's faults risen; one that came to its end, and didn't put its report, the report's
pub cause-by : (began : Began) (nodes : ℕ) (flat : FlatState) (journal : List JournalEntry) (found : Finish) (released : List ℕ)
    (before behind : Option (List ℕ)) (was is : ℕ) (broken : Type 0) → EndsSo began journal found released before behind was is →
    (ending_by nodes flat found ≡ None) ⊎ broken → Rose was is ⊎ broken
cause-by began nodes flat journal finish.Stopped released before behind was is broken so why = inl so.1
cause-by began nodes flat journal finish.Over released before behind was is broken so (inl none) = cc
cause-by began nodes flat journal finish.Over released before behind was is broken so (inr rose) = inr rose
cause-by began nodes flat journal (finish.CutOff a b) released before behind was is broken so (inl none) = cc
cause-by began nodes flat journal (finish.CutOff a b) released before behind was is broken so (inr rose) = inr rose
cause-by began nodes flat journal finish.Budget released before behind was is broken so (inl none) = cc
cause-by began nodes flat journal finish.Budget released before behind was is broken so (inr rose) = inr rose
