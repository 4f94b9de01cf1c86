use Rattle.std.proofs.Common.{◌≡◌, drop, map, string_bytes}
use Rattle.usage_reasons.specs.Words.{first_given}
use Rattle.usage_reasons.proofs.words.first_given.Given as goal

abbrev pub invariant-options : goal.invariant-options
invariant-options l =
    first_given (map (λ option. option.now) (drop l.option-index l.options)) (map string_bytes l.words)
    ≡ first_given (map (λ option. option.now) l.options) (map string_bytes l.words)
