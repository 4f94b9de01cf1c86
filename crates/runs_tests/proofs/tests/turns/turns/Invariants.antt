use Rattle.std.proofs.Common.{◌≡◌}
use Rattle.runs_tests.proofs.tests.turns.turns.Given as goal

abbrev pub invariant-events : goal.invariant-events
invariant-events g l = l.all.parts ≡ l.initial.all.parts
