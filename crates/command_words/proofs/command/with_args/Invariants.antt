use Rattle.std.proofs.Common.{◌≡◌, false, map, take, IfOk}
use Rattle.clap.specs.Words.{App, app_of}
use Rattle.clap.specs.declared.builder.command.Command.TheViews.{out-Command as fields_of}
use Rattle.command_words.specs.Command.{with_args}
use Rattle.command_words.proofs.command.with_args.Given as goal

abbrev pub invariant-names : goal.invariant-names
invariant-names l = record {
  app : (app : App) → IfOk l.initial.command (λ c. app_of c ≡ app) → IfOk l.command
      (λ c. app_of c ≡ with_args l.kind (map (λ name. name.now) (take l.name-index l.names)) app);
  alone : IfOk l.command (λ c. (fields_of c).has_globals ≡ false);
}
