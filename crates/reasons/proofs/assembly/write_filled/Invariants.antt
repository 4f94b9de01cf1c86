use Rattle.std.proofs.Common.{◌≡◌, ◌++◌, take}
use Rattle.std.specs.List.{flat_map}
use Rattle.reasons.specs.Assembly.{operand_or_byte}
use Rattle.reasons.proofs.assembly.write_filled.Given as goal

abbrev pub invariant-bytes : goal.invariant-bytes
invariant-bytes l = l.reason ≡ l.initial.reason ++ flat_map (operand_or_byte l.operands) (take l.byte-index l.template)
