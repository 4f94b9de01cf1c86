use Rattle.std.proofs.Common.{◌≡◌, ◌≤◌, take}
use Rattle.run_statistics.specs.Messages.{lost_among}
use Rattle.run_statistics.proofs.messages.lost_among.Given as goal

abbrev pub invariant-sent : goal.invariant-sent
invariant-sent l = record { counted : l.count ≡ lost_among (take l.one-index l.sent); few : l.count ≤ l.one-index }
