use Rattle.std.proofs.Common.{[], ◌∷◌, ◌++◌, arith, length, drop, ap, sym, ◌∙◌}
use Rattle.text_lines.specs.Lines.{lines_of}
use Rattle.line_source.specs.Lines.{as_read}
use Rattle.line_source.specs.Memory.{MemLinesData, read_of}
use Rattle.line_source.proofs.NextLine.{left-next, read-next, left-was, others-were}
use Rattle.line_source.proofs.mem_lines.MemLines.take.Goals as goal

pub invariant_of-self-2 : goal.invariant_of-self-2
invariant_of-self-2 c =
    let was = left-was c.self.inside.left c.in_ok-left.left (c.in_ok-line.line.now ∷ c.next_line.new.self)
    (drop c.self.inside.taken (lines_of c.self.inside.text.now)) (sym c.take.ensures.value ∙ c.in_ok-left.was) c.self.invariant.0 c.in_ok-line.ensures.some in
    let were = others-were c.self.inside.left _ _ (sym c.take.ensures.value ∙ c.in_ok-left.was) c.in_ok-line.ensures.some in
    (left-next (lines_of c.self.inside.text.now) c.next_line.new.self c.self.inside.taken c.in_ok-line.line.now was, omega (arith, c.self.invariant.1, ap length were))

pub returns-clause-read : goal.returns-clause-read
returns-clause-read c =
    let was = left-was c.self.inside.left c.in_ok-left.left (c.in_ok-line.line.now ∷ c.next_line.new.self)
    (drop c.self.inside.taken (lines_of c.self.inside.text.now)) (sym c.take.ensures.value ∙ c.in_ok-left.was) c.self.invariant.0 c.in_ok-line.ensures.some in
    read-next (lines_of c.self.inside.text.now) c.next_line.new.self c.self.inside.taken c.in_ok-line.line.now was ∙ ap (λ (s : MemLinesData). read_of s ++ as_read c.in_ok-line.line.now ∷ []) c.self.view_is
