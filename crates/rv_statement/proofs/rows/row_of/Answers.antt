use Rattle.std.proofs.Common.{◌≡◌, sym, ap, ◌∙◌, get_or, true, false, Some}
use Rattle.rv_decode.specs.declared.instr.Instr.TheVariants.{Fence}
use Rattle.rv_statement.specs.Reading.{rows, is_row, row_of}
use Rattle.rv_statement.proofs.Found.{find-found, find-next, find-none}
use Rattle.rv_statement.proofs.rows.row_of.Goals as goal

pub returns-then-is_row : goal.returns-then-is_row
unfolding row_of
returns-then-is_row c =
    let passes : is_row c.args.text.now (get_or rows c.rows.place Fence) ≡ true = ap (is_row c.args.text.now) (sym c.row-row.ensures)
    ∙ sym c.is_row.ensures ∙ c.if-is_row.true in
    ap Some c.row-row.ensures ∙ sym (find-found (is_row c.args.text.now) rows c.rows.place Fence c.rows-test.true passes) ∙ c.rows.invariant

pub rows-preserved : goal.rows-preserved
rows-preserved c =
    let fails : is_row c.args.text.now (get_or rows c.rows.place Fence) ≡ false = ap (is_row c.args.text.now) (sym c.row-row.ensures)
    ∙ sym c.is_row.ensures ∙ c.if-is_row.false in
    sym (find-next (is_row c.args.text.now) rows c.rows.place Fence c.rows-test.true fails) ∙ c.rows.invariant

pub returns : goal.returns
unfolding row_of
returns c = sym (find-none (is_row c.args.text.now) rows c.rows.place c.rows-test.false) ∙ c.rows.invariant
