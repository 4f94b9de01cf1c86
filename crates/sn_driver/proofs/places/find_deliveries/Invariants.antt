use Rattle.std.proofs.Common.{◌+◌, ◌≤◌, List, ◌++◌, map, take, filter_map}
use Rattle.sn_base.specs.declared.event.Event.{Event}
use Rattle.due_events.specs.Lists.{delivery}
use Rattle.sn_driver.specs.Found.{HasFound}
use Rattle.sn_driver.proofs.places.find_deliveries.Given as goal

-- those of the first messages are found
abbrev pub invariant-places : goal.invariant-places
invariant-places l = record {
  few : l.found.count ≤ l.initial.found.count + l.place;
  found : (events : List Event) → HasFound l.machine.config.nodes events l.initial.found → HasFound l.machine.config.nodes (events ++ filter_map (λ place. place) (take l.place (map (delivery l.machine.image l.machine.config l.machine.state l.node) l.machine.state.fabric.net.flights))) l.found;
}
