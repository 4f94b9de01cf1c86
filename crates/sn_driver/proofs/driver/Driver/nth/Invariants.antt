use Rattle.std.proofs.Common.{◌≡◌, drop, filter_map, slice_get}
use Rattle.due_events.specs.Lists.{places_of, list_of}
use Rattle.sn_driver.proofs.driver.Driver.nth.Given as goal

-- with so many left it is the same event of those to come
abbrev pub invariant-places : goal.invariant-places
invariant-places l =
    slice_get (filter_map (λ place. place) (drop l.place (places_of l.self.rules l.machine.image l.machine.config l.machine.state l.self.numbers l.node))) l.left ≡ slice_get (list_of l.self.rules l.machine.image l.machine.config l.machine.state l.self.numbers l.node) l.before
