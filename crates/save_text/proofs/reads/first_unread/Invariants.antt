use Rattle.std.proofs.Common.{◌≡◌, ℕ, ◌<◌, true}
use Rattle.rv_core.specs.Execution.{in_of}
use Rattle.sn_saved.specs.Saved.{given_to, begins_with}
use Rattle.save_text.proofs.reads.first_unread.Given as goal

abbrev pub invariant-nodes : goal.invariant-nodes
invariant-nodes l =
    (n : ℕ) → n < l.number → begins_with (given_to l.saved.given n) (in_of n l.saved.committed) ≡ true
