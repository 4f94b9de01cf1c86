use Rattle.std.proofs.Common.{◌≡◌, ℕ, List, ◌+◌, length, drop, sym, ap, ◌∙◌, subst, arith, length-drop}
use Rattle.std.specs.Prelude.{Some, Ok, Result}
use Rattle.std.specs.List.{position, slice_split}
use Rattle.sn_saved.specs.Saved.{Saved}
use Rattle.text_lines.specs.Lines.{is_line_feed}
use Rattle.text_lines.proofs.Ends.{rest-is}
use Rattle.save_text.specs.declared.cause.SaveCause.{SaveCause}
use Rattle.save_text.specs.Lines.{IsRefusedAs}
use Rattle.save_text.specs.Reading.{Reading, lines_read}
use Rattle.save_text.proofs.Parted.{line-within}
use Rattle.save_text.proofs.Told.{line-read, refused-at, read-out, closed-ended, closed-open}
use Rattle.save_text.proofs.lines.read_lines.Goals as goal

pub lines-preserved : goal.lines-preserved
lines-preserved c =
    let pos : position is_line_feed c.lines.rest.now ≡ Some c.in-Some.end = sym c.end_of_line.ensures ∙ c.in-Some.is in
    let others = rest-is c.lines.rest.now (c.in-Some.end + 1) in
    let count = ap (λ (xs : List ℕ). length xs) others in
    let dropped = length-drop (c.in-Some.end + 1) c.lines.rest.now in
    let within = line-within c.lines.rest.now c.in-Some.end pos in
    let n = c.lines.invariant.numbers in
    record {
      same =
          ap (λ (xs : List ℕ). lines_read (c.lines.number + 1) (Ok c.read_line.new.reading) (slice_split is_line_feed xs)) others
          ∙ (ap (λ (r : Result Reading SaveCause). lines_read (c.lines.number + 1) r
          (slice_split is_line_feed (drop (c.in-Some.end + 1) c.lines.rest.now))) (sym c.in_default-read_line.ensures.ok)
          ∙ (sym (line-read c.lines.number (Ok c.lines.reading) c.lines.rest.now c.in-Some.end pos) ∙ c.lines.invariant.same));
      numbers = omega (arith, count, dropped, within, n);
    }

pub returns-in-Err-clause-refused : goal.returns-in-Err-clause-refused
returns-in-Err-clause-refused c =
    subst (λ (said : Result Saved SaveCause). IsRefusedAs said c.in-Err.fault) c.lines.invariant.same
    (refused-at c.lines.number c.lines.reading c.lines.rest.now c.in-Some.end c.in-Err.fault (sym c.end_of_line.ensures ∙ c.in-Some.is)
    c.in-Err.ensures.refused)

pub returns-in-Some-close-clause-ok : goal.returns-in-Some-close-clause-ok
returns-in-Some-close-clause-ok c =
    let ended = c.in-Some-close.ensures.ended in
    sym c.lines.invariant.same
    ∙ (read-out c.lines.number c.lines.reading c.lines.rest.now (sym c.end_of_line.ensures ∙ c.in_default.is)
    ∙ closed-ended c.lines.number c.lines.reading c.lines.rest.now c.in-Some-close.saved ended.0 ended.1)

pub returns-in-None-clause-refused : goal.returns-in-None-clause-refused
returns-in-None-clause-refused c =
    sym c.lines.invariant.same
    ∙ (read-out c.lines.number c.lines.reading c.lines.rest.now (sym c.end_of_line.ensures ∙ c.in_default.is)
    ∙ closed-open c.lines.number c.lines.reading c.lines.rest.now c.in-None.ensures.ended)
