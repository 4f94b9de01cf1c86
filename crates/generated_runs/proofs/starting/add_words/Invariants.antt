use Rattle.std.proofs.Common.{◌≡◌, ◌++◌, take}
use Rattle.std.specs.List.{flat_map}
use Rattle.byteorder.specs.Endian.{little_bytes}
use Rattle.generated_runs.proofs.starting.add_words.Given as goal

abbrev pub invariant-words : goal.invariant-words
invariant-words l = l.bytes.items ≡ l.initial.bytes.items ++ flat_map (little_bytes 4) (take l.word-index l.words)
