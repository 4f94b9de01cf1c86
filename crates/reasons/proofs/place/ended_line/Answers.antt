use Rattle.std.proofs.Common.{◌≡◌, ℕ, List, ◌+◌, ◌-◌, length, sym, ap, ◌∙◌, arith, length-drop}
use Rattle.std.specs.Prelude.{Some}
use Rattle.std.specs.List.{position, slice_split}
use Rattle.text_lines.specs.Lines.{is_line_feed}
use Rattle.text_lines.proofs.Ends.{rest-is}
use Rattle.reasons.specs.Places.{ended_in, ended_line}
use Rattle.reasons.proofs.Ended.{line-here, line-later, no-line}
use Rattle.reasons.proofs.place.ended_line.Goals as goal

pub returns-then-left-le1 : goal.returns-then-left-le1
unfolding ended_line
returns-then-left-le1 c =
    let pos : position is_line_feed c.lines.rest.now ≡ Some c.in-Some.end = sym c.end_of_line.ensures ∙ c.in-Some.is in
    sym (line-here c.lines.left c.lines.rest.now c.in-Some.end pos (omega (arith, c.if-left-le1.true))) ∙ c.lines.invariant.same

pub lines-preserved : goal.lines-preserved
lines-preserved c =
    let pos : position is_line_feed c.lines.rest.now ≡ Some c.in-Some.end = sym c.end_of_line.ensures ∙ c.in-Some.is in
    let others = rest-is c.lines.rest.now (c.in-Some.end + 1) in
    let count = ap (λ (xs : List ℕ). length xs) others in
    let dropped = length-drop (c.in-Some.end + 1) c.lines.rest.now in
    let within = c.lines.invariant.within in
    record {
      same =
          ap (λ (xs : List ℕ). ended_in (c.lines.left - 1) (slice_split is_line_feed xs)) others
          ∙ (sym (line-later c.lines.left c.lines.rest.now c.in-Some.end pos (omega (arith, c.if-left-le1.false))) ∙ c.lines.invariant.same);
      within = omega (arith, count, dropped, within);
    }

pub returns : goal.returns
unfolding ended_line
returns c = sym (no-line c.lines.left c.lines.rest.now (sym c.end_of_line.ensures ∙ c.in_default.is)) ∙ c.lines.invariant.same
