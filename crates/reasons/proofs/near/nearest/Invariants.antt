use Rattle.std.proofs.Common.{◌≡◌, drop, map}
use Rattle.reasons.specs.Near.{nearest}
use Rattle.reasons.proofs.near.nearest.Given as goal

abbrev pub invariant-words : goal.invariant-words
invariant-words l = nearest (map (λ word. word.now) (drop l.word-index l.words)) l.given ≡ nearest (map (λ word. word.now) l.words) l.given
