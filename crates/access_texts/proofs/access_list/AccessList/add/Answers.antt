use Rattle.std.proofs.Common.{ap, subst}
use Rattle.access_check.specs.Accesses.{IsFittingAccess, IsFittingWord}
use Rattle.access_texts.specs.Fitting.{IsFittingStatement}
use Rattle.access_texts.proofs.Appended.{all-appended, all-same}
use Rattle.access_texts.proofs.access_list.AccessList.add.Goals as goal

pub returns-in-Start-2-clause-words : goal.returns-in-Start-2-clause-words
returns-in-Start-2-clause-words c =
    all-appended IsFittingWord _ _ (ap (λ s. s.words) c.self.view_is) _ c.in-Start-2.word c.append.result
    (subst IsFittingStatement c.in-Start-2.is c.requires) c.append.ensures.ok

pub returns-in-Access-2-clause-words : goal.returns-in-Access-2-clause-words
returns-in-Access-2-clause-words c = all-same IsFittingWord _ _ (ap (λ s. s.words) c.self.view_is) c.append-in-Access-2.result

pub returns-in-Access-2-clause-accesses : goal.returns-in-Access-2-clause-accesses
returns-in-Access-2-clause-accesses c =
    all-appended IsFittingAccess _ _ (ap (λ s. s.accesses) c.self.view_is) _ c.in-Access.field-0 c.append-in-Access-2.result
    (subst IsFittingStatement c.in-Access.is c.requires) c.append-in-Access-2.ensures.ok
