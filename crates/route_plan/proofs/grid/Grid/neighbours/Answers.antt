use Rattle.std.proofs.Common.{arith}
use Rattle.route_plan.specs.Grid.{after, before}
use Rattle.route_plan.proofs.Grids.{neighbours-a, neighbours-b, along-there, after-stays, before-stays, partner-there}
use Rattle.route_plan.proofs.grid.Grid.neighbours.Goals as goal

pub returns-then-switch-eq0-clause-neighbours : goal.returns-then-switch-eq0-clause-neighbours
returns-then-switch-eq0-clause-neighbours c = rw (← c.self.view_is) (neighbours-a _ _ _ c.args.switch c.self.invariant (omega arith))

pub returns-then-switch-eq0-clause-after_there : goal.returns-then-switch-eq0-clause-after_there
returns-then-switch-eq0-clause-after_there c =
    rw (← c.self.view_is) (along-there after _ _ _ c.args.switch after-stays c.self.invariant (omega arith))

pub returns-then-switch-eq0-clause-before_there : goal.returns-then-switch-eq0-clause-before_there
returns-then-switch-eq0-clause-before_there c =
    rw (← c.self.view_is) (along-there before _ _ _ c.args.switch before-stays c.self.invariant (omega arith))

pub returns-then-switch-eq0-clause-partner_there : goal.returns-then-switch-eq0-clause-partner_there
returns-then-switch-eq0-clause-partner_there c = partner-there c.args.switch _ c.requires

pub returns-else-switch-eq0-clause-neighbours : goal.returns-else-switch-eq0-clause-neighbours
returns-else-switch-eq0-clause-neighbours c = rw (← c.self.view_is) (neighbours-b _ _ _ c.args.switch c.self.invariant (omega arith))

pub returns-else-switch-eq0-clause-after_there : goal.returns-else-switch-eq0-clause-after_there
returns-else-switch-eq0-clause-after_there c =
    rw (← c.self.view_is) (along-there after _ _ _ c.args.switch after-stays c.self.invariant (omega arith))

pub returns-else-switch-eq0-clause-before_there : goal.returns-else-switch-eq0-clause-before_there
returns-else-switch-eq0-clause-before_there c =
    rw (← c.self.view_is) (along-there before _ _ _ c.args.switch before-stays c.self.invariant (omega arith))

pub returns-else-switch-eq0-clause-partner_there : goal.returns-else-switch-eq0-clause-partner_there
returns-else-switch-eq0-clause-partner_there c = partner-there c.args.switch _ c.requires
