use Rattle.std.proofs.Common.{◌≡◌, ◌+◌, ◌≤◌, length, drop}
use Rattle.sn_saved.specs.Saved.{given_to}
use Rattle.sn_machine.proofs.resuming.count_given.Given as goal

-- what was counted, with what is left, is all
abbrev pub invariant-bytes : goal.invariant-bytes
invariant-bytes l = record {
  all : l.count + length (given_to (drop l.place l.given) l.node) ≡ length (given_to l.given l.node);
  few : l.count ≤ l.place;
}
