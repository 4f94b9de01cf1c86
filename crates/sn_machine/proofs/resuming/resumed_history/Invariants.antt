use Rattle.std.proofs.Common.{◌≡◌, ◌-◌, [], length, take}
use Rattle.sn_machine.specs.Resumed.{of_interval_0}
use Rattle.sn_machine.proofs.resuming.resumed_history.Given as goal

-- the first records wait, and there is room for the others
abbrev pub invariant-records : goal.invariant-records
invariant-records l =
    l.history ≡ record { pending = of_interval_0 (take l.place l.records); committed = []; room = length l.records - l.place }
