use Rattle.std.proofs.Common.{◌≡◌, length, sym, subst, ◌∙◌, rules}
use Rattle.std.specs.Io.BufRead.{FillKeeps}
use Rattle.line_source.proofs.Begun.{known-over, known-ended, known-open}
use Rattle.line_source.proofs.reader_lines.take_piece.Goals as goal

pub returns-then-is_empty : goal.returns-then-is_empty
returns-then-is_empty g c =
    let rested = c.fill_buf.follows.lender-at-none in
    let kept = subst (FillKeeps _ (g.R.Read.remaining rested) (g.R.BufRead.consumable_len rested)) c.in-Ok.is c.fill_buf.follows.holds-at-none in
    let none : length c.in-Ok.held.now ≡ 0 = search rules in
    known-over _ _ c.in-Ok.held.now c.args.into.now kept.0 c.in-Ok.ensures.end none

pub returns-in-Some : goal.returns-in-Some
returns-in-Some g c =
    let rested = c.fill_buf.follows.lender-at-none in
    let kept = subst (FillKeeps _ (g.R.Read.remaining rested) (g.R.BufRead.consumable_len rested)) c.in-Ok.is c.fill_buf.follows.holds-at-none in
    known-ended _ _ c.in-Ok.held.now c.args.into.now _ _ _ c.in-Some.end kept.0 kept.1 c.consume.ensures.bytes c.in-Ok.ensures.front
    (sym c.end_of_line.ensures ∙ c.in-Some.is) c.add.ensures

pub returns-in-None : goal.returns-in-None
returns-in-None g c =
    let rested = c.fill_buf.follows.lender-at-none in
    let kept = subst (FillKeeps _ (g.R.Read.remaining rested) (g.R.BufRead.consumable_len rested)) c.in-Ok.is c.fill_buf.follows.holds-at-none in
    known-open _ _ c.in-Ok.held.now c.args.into.now _ _ _ kept.0 kept.1 c.consume-in-None.ensures.bytes c.in-Ok.ensures.front
    (sym c.end_of_line.ensures ∙ c.in-None.is) c.add-in-None.ensures
