use Rattle.std.proofs.Common.{◌+◌, ◌≤◌, ◌++◌, map, take, filter_map}
use Rattle.due_events.specs.Lists.{delivery, hop, own_places}
use Rattle.sn_driver.specs.Found.{HasFound}
use Rattle.sn_driver.proofs.driver.Driver.found.Given as goal

-- those of the messages and of the first of its own places are found
abbrev pub invariant-own : goal.invariant-own
invariant-own l = record {
  few : l.found.count ≤ 2048 + l.place;
  found : HasFound l.machine.config.nodes ((filter_map (λ place. place) (map (delivery l.machine.image l.machine.config l.machine.state l.node) l.machine.state.fabric.net.flights)
      ++ filter_map (λ place. place) (map (hop l.node) l.machine.state.fabric.net.flights))
      ++ filter_map (λ place. place) (take l.place (own_places l.self.rules l.machine.image l.machine.config l.machine.state l.self.numbers l.node))) l.found;
}
