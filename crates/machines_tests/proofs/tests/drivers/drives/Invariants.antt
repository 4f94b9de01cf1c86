use Rattle.std.proofs.Common.{◌≡◌, ◌<◌, ◌≤◌}
use Rattle.machines_tests.proofs.tests.drivers.drives.Given as goal

-- the driver is one of the machine's nodes, and has applied no more events than there were rows
abbrev pub invariant-rows : goal.invariant-rows
invariant-rows g l = record {
  same : l.machine.config.nodes ≡ l.driver.nodes;
  nodes : l.driver.nodes ≡ l.nodes;
  worker : l.worker < l.driver.nodes;
  done : l.driver.numbers.done ≤ l.pick-index;
}
