use Rattle.std.proofs.Common.{◌≡◌, drop, map, string_bytes}
use Rattle.usage_reasons.specs.Words.{is_given}
use Rattle.usage_reasons.proofs.words.is_given.Given as goal

abbrev pub invariant-words : goal.invariant-words
invariant-words l = is_given l.option (map string_bytes (drop l.word-index l.words)) ≡ is_given l.option (map string_bytes l.words)
