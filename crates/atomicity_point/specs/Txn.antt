-- What a node has open: at most one miss and one put.
use Rattle.std.specs.Prelude.{ℕ, ◌+◌, Bool, ◌&&◌, nat_eq, is_some, min, Option, Some, None}
pub use Rattle.atomicity_point.specs.declared.Txn.{Txn}

-- the open miss and the open put
pub record Open : Type 0 where
  pub miss : Option Txn
  pub put : Option Txn

-- a transaction as it is issued: its point of atomicity isn't fixed, and nothing is due or in
abbrev pub issued_at : ℕ → ℕ → Txn
issued_at block interval = record { block = block; issued = interval; fixed = None; acks_due = 0; acks_in = 0 }

-- the answer has come: the interval of atomicity is fixed, and it is known how many acknowledgements are due
abbrev pub txn_with_answer : Txn → ℕ → ℕ → Txn
txn_with_answer t interval due = record t { fixed = Some interval; acks_due = due }

-- one more acknowledgement is in
abbrev pub txn_with_ack : Txn → Txn
txn_with_ack t = record t { acks_in = t.acks_in + 1 }

-- whether the point of atomicity is fixed and all acknowledgements are in
abbrev pub is_complete : Txn → Bool
is_complete t = is_some t.fixed && nat_eq t.acks_in t.acks_due

-- the least interval in which something that is open was issued
abbrev pub least_issued : Option Txn → Option Txn → Option ℕ
least_issued None None = None
least_issued (Some t) None = Some t.issued
least_issued None (Some u) = Some u.issued
least_issued (Some t) (Some u) = Some (min t.issued u.issued)
