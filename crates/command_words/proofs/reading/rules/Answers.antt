use Rattle.std.proofs.Common.{◌∙◌, refl, sym}
use Rattle.command_words.proofs.Rules.{same_rules}
use Rattle.command_words.proofs.reading.rules.Goals as goal

pub returns-in-Some-clause-ok : goal.returns-in-Some-clause-ok
returns-in-Some-clause-ok c =
    sym (c.in-Some.ensures.rules
    ∙ same_rules c.args.nodes _ _ _ _ _ _ _ _ _ _ _ _ c.text_of.ensures c.text_of-2.ensures c.text_of-3.ensures c.text_of-4.ensures
    c.text_of-5.ensures c.text_of-6.ensures)

pub returns-in-None-clause-usage : goal.returns-in-None-clause-usage
returns-in-None-clause-usage c = (
  refl,
  sym (c.in-None.ensures.rules
      ∙ same_rules c.args.nodes _ _ _ _ _ _ _ _ _ _ _ _ c.text_of.ensures c.text_of-2.ensures c.text_of-3.ensures c.text_of-4.ensures
      c.text_of-5.ensures c.text_of-6.ensures),
)
