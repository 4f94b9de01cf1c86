use Rattle.std.proofs.Common.{◌≡◌, drop}
use Rattle.run_statistics.specs.Numbers.{with_one_each}
use Rattle.run_statistics.specs.Messages.{kinds_of}
use Rattle.run_statistics.proofs.messages.add_kinds.Given as goal

abbrev pub invariant-sent : goal.invariant-sent
invariant-sent l = with_one_each l.numbers (kinds_of (drop l.one-index l.sent)) ≡ with_one_each l.initial.numbers (kinds_of l.sent)
