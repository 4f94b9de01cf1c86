use Rattle.command_words.proofs.command.command_by.Goals as goal

pub returns-clause-app : goal.returns-clause-app
returns-clause-app c =
    c.with_args.ensures.app _ (c.with_args-command-2.ensures.app _ (c.with_args-command.ensures.app _ c.new.ensures.app))
