use Rattle.std.proofs.Common.{◌≡◌, drop, map}
use Rattle.reasons.specs.Assembly.{instead_of}
use Rattle.reasons.proofs.assembly.instead_of.Given as goal

abbrev pub invariant-rows : goal.invariant-rows
invariant-rows l = instead_of (map (λ row. (row.0.now, row.1.now)) (drop l.row-index l.rows)) l.mnemonic
    ≡ instead_of (map (λ row. (row.0.now, row.1.now)) l.rows) l.mnemonic
