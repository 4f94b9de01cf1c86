use Rattle.std.proofs.Common.{List, ℕ, ◌∷◌, [], ◌+◌, drop, sym, ap, ◌∙◌}
use Rattle.text_lines.specs.Lines.{lines_from}
use Rattle.text_lines.proofs.Ends.{line-ended, line-last, rest-is}
use Rattle.text_lines.proofs.Lines.next_line.Goals as goal

pub returns-in-Some-clause-some : goal.returns-in-Some-clause-some
returns-in-Some-clause-some c =
    sym c.self.view_is ∙ rw c.if-self.false
    (line-ended c.self.inside.rest.now c.in-Some.end (sym c.end_of_line.ensures ∙ c.in-Some.is)
    ∙ ap (λ (line : List ℕ). line ∷ lines_from [] (drop (c.in-Some.end + 1) c.self.inside.rest.now)) (sym c.without_return.ensures)
    ∙ ap (λ (rest : List ℕ). c.without_return.result.now ∷ lines_from [] rest) (sym (rest-is c.self.inside.rest.now (c.in-Some.end + 1))))

pub returns-in-None-clause-some : goal.returns-in-None-clause-some
returns-in-None-clause-some c =
    sym c.self.view_is ∙ rw c.if-self.false (line-last c.self.inside.rest.now (sym c.end_of_line.ensures ∙ c.in-None.is))
