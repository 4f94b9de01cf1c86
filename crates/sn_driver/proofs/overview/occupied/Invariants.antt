use Rattle.std.proofs.Common.{◌≡◌, length, take}
use Rattle.sn_driver.specs.Overview.{AreMarked}
use Rattle.sn_driver.proofs.overview.occupied.Given as goal

-- the nodes of the first messages are marked
abbrev pub invariant-places : goal.invariant-places
invariant-places l = record {
  nodes : length l.occupied ≡ 16;
  marked : AreMarked l.occupied (take l.place l.machine.state.fabric.net.flights);
}
