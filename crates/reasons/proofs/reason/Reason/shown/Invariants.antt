use Rattle.std.proofs.Common.{◌≡◌, ◌++◌, take}
use Rattle.reasons.specs.Reason.{escaped_text}
use Rattle.reasons.proofs.reason.Reason.shown.Given as goal

abbrev pub invariant-bytes : goal.invariant-bytes
invariant-bytes l = l.self ≡ l.initial.self ++ escaped_text (take l.byte-index l.found)
