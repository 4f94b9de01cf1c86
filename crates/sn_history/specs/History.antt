-- The instructions that have retired: those that a recovery may still undo, and those that are committed for good.
use Rattle.std.specs.Prelude.{ℕ, ◌+◌, ◌&&◌, List, map, nat_eq, is_some}
use Rattle.std.specs.List.{count_by}
pub use Rattle.interval_list.specs.declared.Waiting.{Waiting}
pub use Rattle.rv_core.specs.declared.step.Record.{Record}

-- the pending records, in the order in which their instructions retired, the committed ones, and how many more may be
-- added
pub record HistoryData : Type 0 where
  pub pending : List (Waiting Record)
  pub committed : List Record
  pub room : ℕ

-- the records that are pending, without their intervals
abbrev pub pending_records : List (Waiting Record) → List Record
pending_records pending = map (λ p. p.entry) pending

-- how many of these records are of the node and have a byte read
abbrev pub reads_of : ℕ → List Record → ℕ
reads_of node records = count_by (λ r. nat_eq r.core node && is_some r.read) records

-- how many bytes of its input the node has taken
abbrev pub taken_by : HistoryData → ℕ → ℕ
taken_by h node = reads_of node h.committed + reads_of node (pending_records h.pending)
