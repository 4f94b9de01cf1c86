use Rattle.std.proofs.Common.{◌≡◌, [], drop, take, map, string_bytes}
use Rattle.usage_reasons.specs.Faults.{first_read, fault_from}
use Rattle.usage_reasons.specs.Seen.{read_seen}
use Rattle.usage_reasons.proofs.reading.fault_from.Given as goal

abbrev pub invariant-words : goal.invariant-words
invariant-words l =
    fault_from l.command (map string_bytes (take l.place l.words)) (read_seen l.reading) (map string_bytes (drop l.place l.words))
    ≡ fault_from l.command [] (first_read l.command) (map string_bytes l.words)
