use Rattle.std.proofs.Common.{◌≡◌, ℕ, ◌+◌, ◌<◌}
use Rattle.due_events.specs.Due.{first_picked}
use Rattle.sn_driver.proofs.driver.Driver.first_picked.Given as goal

-- the nodes so far have nothing
abbrev pub invariant-turns : goal.invariant-turns
invariant-turns l = record {
  here : l.number < l.machine.config.nodes;
  same : (left : ℕ) → left + l._turn ≡ l.machine.config.nodes → first_picked l.self.rules l.machine.image l.machine.config l.machine.state l.self.numbers l.pick left l.number
      ≡ first_picked l.self.rules l.machine.image l.machine.config l.machine.state l.self.numbers l.pick l.machine.config.nodes l.worker;
}
