use Rattle.route_plan.specs.Distances.{Switches}
use Rattle.route_plan.proofs.Steps.{distance-most}
use Rattle.route_plan.proofs.distances.Distances.get.Goals as goal

pub returns-clause-most : goal.returns-clause-most
returns-clause-most c =
    let m : Switches = record { nodes = c.self.inside.grid; dead = c.self.inside.dead } in
    let e = c.self.invariant.all c.args.to (rw (← c.self.view_is) at c.requires.receiver) c.args.switch
    (rw (← c.self.view_is) at c.requires.there) in
    rw (c.from.ensures, c.number.ensures.same, c.from-2.ensures, e) (distance-most m c.args.to c.args.switch)
