use Rattle.std.proofs.Common.{◌∙◌, ap}
use Rattle.std.proofs.lemmas.Result.{IfOk-at_ok, IfOk-weaker}
use Rattle.clap.specs.Words.{App}
use Rattle.command_words.specs.Command.{row_app, with_command}
use Rattle.command_words.proofs.command.with_row.Goals as goal

pub returns-in-Ok : goal.returns-in-Ok
returns-in-Ok c rows is =
    let same_rows = ap (λ (app : App). with_command app (row_app c.args.row.now)) (IfOk-at_ok _ c.in-Ok.is is) in
    IfOk-weaker c.added.result _ _ (λ _ e. e ∙ same_rows) (c.added.ensures _ c.command_by.ensures.app)
