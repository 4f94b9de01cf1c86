-- What the sinks show of a run in an order: all of it follows from the run and the order.
use Rattle.std.specs.Prelude.{◌⊎◌, ℕ, List}
use Rattle.sn_io.specs.Outside.{Rose}
use Rattle.sn_probe.specs.Probes.{Meter}
use Rattle.sink_pieces.specs.Pieces.{Ends}
use Rattle.node_run.specs.declared.ending.Ending.{Ending}
use Rattle.node_run.specs.declared.job.Run.{Run}
use Rattle.node_run.specs.Pieces.{begins}
use Rattle.node_run.specs.Shown.{IsDoneWith, IsStopped, IsCutShort, KnowAll}
use Rattle.turn_orders.specs.declared.order.Order.{Order}
use Rattle.ordered_run.specs.Ordered.{journal_after, ordered_journal}

-- it came to its end with the order's journal, and all is put
abbrev pub IsDone : Order → Run → List Meter → Ending → Ends → Ends → List Meter → Type 0
IsDone order r probes ending before behind told = IsDoneWith r (ordered_journal order (begins r)) probes ending before behind told

-- the console broke, and so the run was stopped after so many turns
pub record IsStoppedAfter (order : Order) (r : Run) (probes : List Meter) (turns was is : ℕ) (before behind : Ends) (told : List Meter) : Type 0 where
  pub rose : Rose was is
  pub stopped : IsStopped r (journal_after order (begins r) turns) before behind
  pub know : KnowAll r (journal_after order (begins r) turns) probes told

-- it came to its end with the order's journal, and then the report broke
pub record IsCutShortAtEnd (order : Order) (r : Run) (probes : List Meter) (ending : Ending) (before behind : Ends) (told : List Meter) : Type 0 where
  pub cut_short : IsCutShort r probes ending (ordered_journal order (begins r)) before behind
  pub know : KnowAll r (ordered_journal order (begins r)) probes told

abbrev pub IsBrokenOff : Order → Run → List Meter → ℕ → ℕ → Ends → Ends → List Meter → Type 0
IsBrokenOff order r probes was is before behind told =
    ((turns : ℕ) × IsStoppedAfter order r probes turns was is before behind told)
    ⊎ ((ending : Ending) × IsCutShortAtEnd order r probes ending before behind told)
