use Rattle.std.proofs.Common.{◌≡◌, drop}
use Rattle.run_statistics.specs.Spreads.{spread_with_all}
use Rattle.run_statistics.specs.Bytes.{released_from, waits_of}
use Rattle.run_statistics.proofs.bytes.add_waits.Given as goal

abbrev pub invariant-bytes : goal.invariant-bytes
invariant-bytes l =
    spread_with_all l.waits (waits_of l.number (released_from l.k (drop l.put-index l.held)))
    ≡ spread_with_all l.initial.waits (waits_of l.number (released_from l.k l.held))
