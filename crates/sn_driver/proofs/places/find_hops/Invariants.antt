use Rattle.std.proofs.Common.{◌+◌, ◌≤◌, List, ◌++◌, map, take, filter_map}
use Rattle.sn_base.specs.declared.event.Event.{Event}
use Rattle.due_events.specs.Lists.{hop}
use Rattle.sn_driver.specs.Found.{HasFound}
use Rattle.sn_driver.proofs.places.find_hops.Given as goal

-- those of the first messages are found
abbrev pub invariant-places : goal.invariant-places
invariant-places l = record {
  few : l.found.count ≤ l.initial.found.count + l.place;
  found : (events : List Event) → HasFound l.machine.config.nodes events l.initial.found → HasFound l.machine.config.nodes (events ++ filter_map (λ place. place) (take l.place (map (hop l.node) l.machine.state.fabric.net.flights))) l.found;
}
