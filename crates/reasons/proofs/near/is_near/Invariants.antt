use Rattle.std.proofs.Common.{◌≡◌, ◌-◌, ◌≤◌, drop, length}
use Rattle.reasons.specs.Near.{is_near}
use Rattle.reasons.proofs.near.is_near.Given as goal

abbrev pub invariant-same : goal.invariant-same
invariant-same l = record {
  given : l.i ≤ length l.given;
  word : l.i ≤ length l.word;
  same : is_near (drop l.i l.given) (drop l.i l.word) ≡ is_near l.given l.word;
}

abbrev pub decreases-same : goal.decreases-same
decreases-same l = length l.given - l.i
