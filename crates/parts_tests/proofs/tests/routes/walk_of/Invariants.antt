use Rattle.std.proofs.Common.{◌≡◌, true}
use Rattle.route_plan.specs.Distances.{is_living}
use Rattle.parts_tests.proofs.tests.routes.walk_of.Given as goal

-- each switch of the walk lives
abbrev pub invariant-switches : goal.invariant-switches
invariant-switches l = is_living l.routes l.at ≡ true
