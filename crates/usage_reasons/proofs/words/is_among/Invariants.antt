use Rattle.std.proofs.Common.{◌≡◌, drop, map}
use Rattle.usage_reasons.specs.Words.{is_among}
use Rattle.usage_reasons.proofs.words.is_among.Given as goal

abbrev pub invariant-words : goal.invariant-words
invariant-words l = is_among (map (λ known. known.now) (drop l.known-index l.words)) l.word ≡ is_among (map (λ known. known.now) l.words) l.word
