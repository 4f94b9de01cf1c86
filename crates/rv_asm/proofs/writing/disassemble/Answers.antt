use Rattle.std.proofs.Common.{◌∙◌, sym, ap, ◌++◌, drop, ◌+◌}
use Rattle.rv_asm.specs.Text.{dis_of}
use Rattle.rv_asm.proofs.Lines.{dis_of-next, dis_of-all}
use Rattle.rv_asm.proofs.writing.disassemble.Goals as goal

pub words-preserved : goal.words-preserved
words-preserved c =
    ap (λ t. t ++ dis_of (drop (c.words.word-index + 1) c.args.words.now)) c.in_ok-add_line.ensures
    ∙ dis_of-next c.words.text.items c.args.words.now c.words.word-index c.words-test.true
    ∙ c.words.invariant

pub returns : goal.returns
returns c = sym (dis_of-all c.words.text.items c.args.words.now c.words.word-index c.words-test.false) ∙ c.words.invariant
