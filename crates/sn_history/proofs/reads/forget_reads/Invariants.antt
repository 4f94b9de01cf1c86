use Rattle.std.proofs.Common.{◌≡◌, ℕ, ◌+◌, ◌<◌, drop, get_or}
use Rattle.sn_history.specs.History.{reads_of, pending_records}
use Rattle.sn_history.proofs.reads.forget_reads.Given as goal

-- what is left is still counted
abbrev pub invariant-pending : goal.invariant-pending
invariant-pending l = (n : ℕ) → n < 16 →
    get_or l.reads n 0 + reads_of n (pending_records l.pending)
    ≡ get_or l.initial.reads n 0 + reads_of n (pending_records (drop l.one-index l.pending))
