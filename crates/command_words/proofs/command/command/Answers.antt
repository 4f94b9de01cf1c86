use Rattle.std.proofs.Common.{◌∙◌, sym}
use Rattle.std.proofs.lemmas.Result.{IfOk-weaker}
use Rattle.command_words.specs.Command.{named_app, row_app, with_command}
use Rattle.command_words.proofs.Table.{fold-next}
use Rattle.command_words.proofs.command.command.Goals as goal

pub rows-preserved : goal.rows-preserved
rows-preserved c =
    let one_more = fold-next with_command row_app c.commands-rows.result.now c.rows.row-index _ named_app c.rows-test.true in
    IfOk-weaker c.with_row-table.result _ _ (λ _ e. e ∙ sym one_more) (c.with_row-table.ensures _ c.rows.invariant)
