use Rattle.std.proofs.Common.{◌≡◌, Some, subst, sym}
use Rattle.rv_decode.specs.Decoded.{instruction_at}
use Rattle.rv_decode.specs.Table.{IsWordOf}
use Rattle.rv_decode.proofs.Words.{word_of-right, decoded-word_of}
use Rattle.rv_decode.proofs.writing.encode.Goals as goal

pub returns-clause-word : goal.returns-clause-word
returns-clause-word c = subst (IsWordOf c.args.instr.now) (sym c.written.ensures) (word_of-right c.args.instr.now c.requires)

pub returns-clause-back : goal.returns-clause-back
returns-clause-back c =
    subst (λ word. instruction_at word ≡ Some c.args.instr.now) (sym c.written.ensures) (decoded-word_of c.args.instr.now c.requires)
