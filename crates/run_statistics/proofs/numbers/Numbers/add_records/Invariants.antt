use Rattle.std.proofs.Common.{◌≡◌, drop}
use Rattle.run_statistics.specs.Numbers.{with_one_each}
use Rattle.run_statistics.specs.Records.{nodes_of}
use Rattle.run_statistics.proofs.numbers.Numbers.add_records.Given as goal

abbrev pub invariant-records : goal.invariant-records
invariant-records l = with_one_each l.self (nodes_of (drop l.one-index l.records)) ≡ with_one_each l.initial.self (nodes_of l.records)
