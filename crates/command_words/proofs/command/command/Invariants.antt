use Rattle.std.proofs.Common.{◌≡◌, map, take, fold, IfOk}
use Rattle.clap.specs.Words.{app_of}
use Rattle.command_words.specs.Command.{named_app, row_app, with_command}
use Rattle.command_words.proofs.command.command.Given as goal

abbrev pub invariant-rows : goal.invariant-rows
invariant-rows l = IfOk l.table (λ c. app_of c ≡ fold with_command named_app (map row_app (take l.row-index l.rows)))
