use Rattle.std.proofs.Common.{◌∙◌, sym}
use Rattle.std.proofs.lemmas.Result.{IfOk-weaker}
use Rattle.clap.specs.Words.{with_rule}
use Rattle.command_words.specs.Command.{rule_by}
use Rattle.command_words.proofs.Table.{fold-next}
use Rattle.command_words.proofs.command.with_args.Goals as goal

pub names-preserved : goal.names-preserved
names-preserved c = record {
  app = λ app is_app.
      let one_more = fold-next (λ a name. with_rule a (rule_by c.args.kind name)) (λ name. name.now)
      c.args.names.now c.names.name-index _ app c.names-test.true in
      IfOk-weaker c.with_next-command.result _ _ (λ _ e. e ∙ sym one_more)
      (c.with_next-command.ensures.app _ (c.names.invariant.app app is_app));
  alone = c.with_next-command.ensures.alone;
}
